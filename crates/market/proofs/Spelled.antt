-- The one spelling of a number: digits that are read are its decimal digits.
use mathlib.Core.Path.{◌≡◌, refl, ◌∙◌}
use mathlib.Core.Bool.{Bool, true, false, not, cond}
use mathlib.Core.List.{List, [], ◌∷◌, ◌++◌, append-nil}
use Prim.Native.Nat.{ℕ, suc, ◌+◌, ◌-◌, ◌*◌, ◌/◌, ◌%◌, ◌^◌, ◌≤◌, ◌<◌}
use native.Mathlib.Nat.{pow-suc}
use native.Mathlib.Numerals.{one-add}
use native.Mathlib.Omega.{arith}
use lib.Dec.{eqb}
use lib.ListN.{length}
use lib.Seq.{append_snoc}
use borrow.Author.Tests.{lt-leb, eqb-false}
use Rattle.base.proofs.Booleans.{clash}
use Rattle.market.specs.Bytes.{is_digit}
use Rattle.market.specs.Fields.{digits, is_needed, value_of}
use Rattle.market.specs.Text.{decimal}
use Rattle.market.proofs.Classes.{is_means}
use Rattle.market.proofs.Decimal.{AllDigits, decimal-one, decimal_more, decimal-same}

-- the digits that a text begins with
pub all_digits : (xs : List ℕ) → AllDigits (digits xs)
unfolding digits
all_digits [] = tt
all_digits (b ∷ bs) = go (is_digit b) refl (all_digits bs)
  where
    go : (t : Bool) → is_digit b ≡ t → AllDigits (digits bs) → AllDigits (cond t (b ∷ digits bs) [])
    go true e a = (e, a)
    go false e a = tt

-- digits that come after the number v, which is not 0
record After (g v : ℕ) (ds : List ℕ) : Type 0 where
  small : value_of v ds < 10 ^ (g + length ds)
  spelled : decimal (g + length ds) (value_of v ds) ≡ decimal g v ++ ds

after : (g v : ℕ) (ds : List ℕ) → AllDigits ds → 1 ≤ v → v < 10 ^ suc g → After (suc g) v ds
unfolding value_of
after g v [] a k h = let e : suc g + 0 ≡ suc g = omega arith in record { small = rw e h; spelled = rw (e, append-nil) }
after g v (d ∷ ds) a k h =
    let r = is_means d 1 a.0 in
    let w = v * 10 + (d - 48) in
    let i = after (suc g) w ds a.1 (omega arith) (rw pow-suc (omega arith)) in
    let e : suc g + suc (length ds) ≡ suc (suc g) + length ds = omega arith in
    let q : w / 10 ≡ v = omega arith in
    let m : 48 + w % 10 ≡ d = omega arith in
    let t : decimal (suc (suc g)) w ≡ decimal (suc g) v ++ d ∷ [] =
    decimal_more (suc g) w (omega arith) (rw pow-suc (omega arith)) ∙ rw (q, m, decimal-same (suc (suc g)) (suc g) v (omega arith) (omega arith) (rw pow-suc (omega arith)) h) in
    record { small = rw e i.small; spelled = rw e (i.spelled ∙ rw t (append_snoc (decimal (suc g) v) d ds)) }

-- digits with "no needless leading zero"
pub record Spelled (ds : List ℕ) : Type 0 where
  pub small : value_of 0 ds < 10 ^ length ds
  pub is : decimal (length ds) (value_of 0 ds) ≡ ds

pub spelled : (ds : List ℕ) → AllDigits ds → 1 ≤ length ds → is_needed ds ≡ true → Spelled ds
unfolding value_of
spelled [] a l w = absurd (omega arith)
spelled (d ∷ []) a l w =
    let r = is_means d 1 a.0 in
    let e : 48 + (0 * 10 + (d - 48)) ≡ d = omega arith in
    record { small = omega arith; is = decimal-one 0 (0 * 10 + (d - 48)) (omega arith) ∙ rw e }
spelled (d ∷ x ∷ ds) a l w = go (eqb d 48) refl (rw (lt-leb (length (d ∷ x ∷ ds)) 1 (omega arith)) at w)
  where
    v : ℕ
    v = 0 * 10 + (d - 48)

    go : (t : Bool) → eqb d 48 ≡ t → not t ≡ true → Spelled (d ∷ x ∷ ds)
    go true e n = absurd (clash n refl)
    go false e n =
        let r = is_means d 1 a.0 in
        let ne = eqb-false d 48 e in
        let i = after 0 v (x ∷ ds) a.1 (omega arith) (omega arith) in
        let s : 48 + v ≡ d = omega arith in
        record { small = rw one-add at i.small; is = (rw one-add at i.spelled) ∙ rw (decimal-one 0 v (omega arith), s) }

-- .. as a number of at most f digits is spelled
pub spelled_as : (f : ℕ) {ds : List ℕ} → Spelled ds → 1 ≤ length ds → value_of 0 ds < 10 ^ suc f → decimal (suc f) (value_of 0 ds) ≡ ds
spelled_as f {ds} s l h = decimal-same (suc f) (length ds) (value_of 0 ds) (omega arith) l h s.small ∙ s.is
