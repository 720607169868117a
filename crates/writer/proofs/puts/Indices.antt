-- The number of a row or a column, digit by digit from the first on.
use mathlib.Core.Path.{◌≡◌, refl, sym, ap, ◌∙◌}
use mathlib.Core.Bool.{Bool, true, false}
use mathlib.Core.List.{List, [], ◌∷◌, ◌++◌}
use Prim.Native.Nat.{ℕ, ◌+◌, ◌*◌, ◌/◌, ◌%◌, ◌≤◌, ◌<◌}
use native.Mathlib.Nat.{div-div-eq-div-mul}
use native.Mathlib.Omega.{arith}
use lib.Dec.{ltb}
use lib.ListN.{length, length-append}
use borrow.Author.Tests.{ltb-true, ltb-false, lt-ltb, le-ltb}
use Rattle.market.specs.Text.{natural}
use Rattle.writer.specs.Code.Puts.{digit_at}
use Rattle.writer.proofs.puts.Digits.{natural_digit, natural-digits}

-- a power that the number has not reached, and one that it has
pub digit_none : (power v : ℕ) → v < power → digit_at power v ≡ []
unfolding digit_at
digit_none power v h = rw (lt-ltb v power h)

pub digit_some : (power v : ℕ) → power ≤ v → digit_at power v ≡ (48 + v / power % 10) ∷ []
unfolding digit_at
digit_some power v h = rw (le-ltb v power h)

-- the digit of its tenth
tenth : (power v : ℕ) → digit_at power (v / 10) ≡ digit_at (10 * power) v
tenth power v = go (ltb v (10 * power)) refl
  where
    go : (t : Bool) → ltb v (10 * power) ≡ t → digit_at power (v / 10) ≡ digit_at (10 * power) v
    go true e =
        let h = ltb-true v (10 * power) e in
        digit_none power (v / 10) (omega arith) ∙ sym (digit_none (10 * power) v h)
    go false e =
        let h = ltb-false v (10 * power) e in
        digit_some power (v / 10) (omega arith) ∙ rw (div-div-eq-div-mul v 10 power) (sym (digit_some (10 * power) v h))

-- one digit more after those of its tenth
more : (xs : List ℕ) (v : ℕ) → v < 10000000000 → (v < 10 → xs ≡ []) → natural (v / 10) ≡ xs ++ (48 + v / 10 % 10) ∷ [] → natural v ≡ xs ++ digit_at 10 v ++ (48 + v % 10) ∷ []
more xs v b z t = go (ltb v 10) refl
  where
    go : (s : Bool) → ltb v 10 ≡ s → natural v ≡ xs ++ digit_at 10 v ++ (48 + v % 10) ∷ []
    go true e =
        let h = ltb-true v 10 e in
        let m : v % 10 ≡ v = omega arith in
        natural_digit v h ∙ rw (z h, digit_none 10 v h, m)
    go false e =
        let h = ltb-false v 10 e in
        natural-digits v h b ∙ rw (t, digit_some 10 v h)

-- one digit at most, two, three
one : (v : ℕ) → v < 10 → natural v ≡ (48 + v % 10) ∷ []
one v h = let m : v % 10 ≡ v = omega arith in natural_digit v h ∙ rw m

two : (v : ℕ) → v < 100 → natural v ≡ digit_at 10 v ++ (48 + v % 10) ∷ []
two v h = more [] v (omega arith) (λ z. refl) (one (v / 10) (omega arith))

three : (v : ℕ) → v < 1000 → natural v ≡ digit_at 100 v ++ digit_at 10 v ++ (48 + v % 10) ∷ []
three v h = more (digit_at 100 v) v (omega arith) (λ z. digit_none 100 v (omega arith)) (two (v / 10) (omega arith) ∙ rw (tenth 10 v))

-- the whole number
pub index_digits : (v : ℕ) → v < 10000 → natural v ≡ digit_at 1000 v ++ digit_at 100 v ++ digit_at 10 v ++ (48 + v % 10) ∷ []
index_digits v h =
    more (digit_at 1000 v ++ digit_at 100 v) v (omega arith) (λ z. rw (digit_none 1000 v (omega arith), digit_none 100 v (omega arith)))
    (three (v / 10) (omega arith) ∙ rw (tenth 100 v, tenth 10 v))

pub index_length : (v : ℕ) → v < 10000 → length (natural v) ≡ length (digit_at 1000 v) + length (digit_at 100 v) + length (digit_at 10 v) + 1
index_length v h = ap length (index_digits v h) ∙ simp length-append
