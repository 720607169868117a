-- A number that was written is parse.
use mathlib.Core.Path.{◌≡◌, refl, ap, ◌∙◌}
use mathlib.Core.Bool.{Bool, true, false, cond}
use mathlib.Core.List.{List, [], ◌∷◌, ◌++◌}
use Prim.Native.Nat.{ℕ, zero, suc, ◌+◌, ◌-◌, ◌*◌, ◌/◌, ◌%◌, ◌^◌, ◌≤◌, ◌<◌}
use native.Mathlib.Nat.{pow-suc}
use native.Mathlib.Omega.{arith}
use lib.Dec.{leb, ltb}
use lib.IntN.{ℤ, pos, negsuc, nat_abs}
use lib.ListN.{length, get_or, length-append, get_or-append}
use borrow.Author.Tests.{ltb-true, ltb-false, lt-ltb, le-ltb, le-leb, eqb-true, ne_eqb}
use Rattle.base.proofs.Booleans.{or_true}
use Rattle.market.specs.Bytes.{class_of, is_digit}
use Rattle.market.specs.Fields.{Scan, got, is, digits, is_needed, is_number, value_of, numeral, signed_by}
use Rattle.market.specs.Text.{decimal, natural, signed_decimal}

pub value-snoc : (v : ℕ) (xs : List ℕ) (d : ℕ) → value_of v (xs ++ d ∷ []) ≡ value_of v xs * 10 + (d - 48)
unfolding value_of
value-snoc v [] d = refl
value-snoc v (x ∷ xs) d = value-snoc (v * 10 + (x - 48)) xs d

pub decimal-value : (f n : ℕ) → n < 10 ^ f → value_of 0 (decimal f n) ≡ n
unfolding decimal value_of
decimal-value zero n h = omega arith
decimal-value (suc f) n h = go (ltb n 10) refl (decimal-value f (n / 10) (omega (arith, rw pow-suc at h)))
  where
    go : (b : Bool) → ltb n 10 ≡ b → value_of 0 (decimal f (n / 10)) ≡ n / 10
        → value_of 0 (cond b ((48 + n) ∷ []) (decimal f (n / 10) ++ (48 + n % 10) ∷ [])) ≡ n
    go true e ih = omega arith
    go false e ih = value-snoc 0 (decimal f (n / 10)) (48 + n % 10) ∙ rw ih (omega arith)

-- digits only
abbrev pub AllDigits : List ℕ → Type 0
AllDigits [] = Unit
AllDigits (d ∷ ds) = (is_digit d ≡ true) × AllDigits ds

digits-snoc : (xs : List ℕ) (d : ℕ) → AllDigits xs → is_digit d ≡ true → AllDigits (xs ++ d ∷ [])
digits-snoc [] d h e = (e, tt)
digits-snoc (x ∷ xs) d h e = (h.0, digits-snoc xs d h.1 e)

is_digit_lem : (m : ℕ) → m < 10 → is_digit (48 + m) ≡ true
unfolding class_of
is_digit_lem m h = rw (le-leb 48 (48 + m) (omega arith), le-leb (48 + m) 57 (omega arith))

pub decimal-digits : (f n : ℕ) → AllDigits (decimal f n)
unfolding decimal
decimal-digits zero n = tt
decimal-digits (suc f) n = go (ltb n 10) refl (decimal-digits f (n / 10))
  where
    go : (b : Bool) → ltb n 10 ≡ b → AllDigits (decimal f (n / 10))
        → AllDigits (cond b ((48 + n) ∷ []) (decimal f (n / 10) ++ (48 + n % 10) ∷ []))
    go true e ih = (is_digit_lem n (ltb-true n 10 e), tt)
    go false e ih = digits-snoc (decimal f (n / 10)) (48 + n % 10) ih (is_digit_lem (n % 10) (omega arith))

-- at most g digits below 10 ^ g, and one at least
pub decimal-length : (f g n : ℕ) → 1 ≤ g → n < 10 ^ g → length (decimal f n) ≤ g
unfolding decimal
decimal-length zero g n k h = omega arith
decimal-length (suc f) zero n k h = absurd (omega arith)
decimal-length (suc f) (suc g) n k h = go (ltb n 10) refl (λ k' h'. decimal-length f g (n / 10) k' h')
  where
    go : (b : Bool) → ltb n 10 ≡ b → (1 ≤ g → n / 10 < 10 ^ g → length (decimal f (n / 10)) ≤ g)
        → length (cond b ((48 + n) ∷ []) (decimal f (n / 10) ++ (48 + n % 10) ∷ [])) ≤ suc g
    go true e ih = omega arith
    go false e ih =
        let t = ltb-false n 10 e in
        let p : 1 ≤ g = pos_g g h t in
        let i = ih p (omega (arith, rw pow-suc at h)) in
        rw length-append (omega arith)
      where
        pos_g : (g : ℕ) → n < 10 ^ suc g → 10 ≤ n → 1 ≤ g
        pos_g zero h t = absurd (omega arith)
        pos_g (suc g) h t = omega arith

-- no more than there is room for
pub decimal-few : (f n : ℕ) → length (decimal f n) ≤ f
unfolding decimal
decimal-few zero n = omega arith
decimal-few (suc f) n = go (ltb n 10) (decimal-few f (n / 10))
  where
    go : (t : Bool) → length (decimal f (n / 10)) ≤ f → length (cond t ((48 + n) ∷ []) (decimal f (n / 10) ++ (48 + n % 10) ∷ [])) ≤ suc f
    go true h = omega arith
    go false h = rw length-append (omega arith)

pub decimal-some : (f n : ℕ) → 1 ≤ length (decimal (suc f) n)
unfolding decimal
decimal-some f n = go (ltb n 10)
  where
    go : (b : Bool) → 1 ≤ length (cond b ((48 + n) ∷ []) (decimal f (n / 10) ++ (48 + n % 10) ∷ []))
    go true = omega arith
    go false = rw length-append (omega arith)

-- no leading zero but in 0
pub decimal-first : (f n : ℕ) → 1 ≤ n → n < 10 ^ f → (1 ≤ length (decimal f n)) × (49 ≤ get_or (decimal f n) 0 0)
unfolding decimal
decimal-first zero n k h = absurd (omega arith)
decimal-first (suc f) n k h = go (ltb n 10) refl (λ k' h'. decimal-first f (n / 10) k' h')
  where
    go : (b : Bool) → ltb n 10 ≡ b → (1 ≤ n / 10 → n / 10 < 10 ^ f → (1 ≤ length (decimal f (n / 10))) × (49 ≤ get_or (decimal f (n / 10)) 0 0))
        → (1 ≤ length (cond b ((48 + n) ∷ []) (decimal f (n / 10) ++ (48 + n % 10) ∷ []))) × (49 ≤ get_or (cond b ((48 + n) ∷ []) (decimal f (n / 10) ++ (48 + n % 10) ∷ [])) 0 0)
    go true e ih = omega arith
    go false e ih =
        let t = ltb-false n 10 e in
        let i = ih (omega arith) (omega (arith, rw pow-suc at h)) in
        (rw length-append (omega arith), rw (get_or-append (decimal f (n / 10)) ((48 + n % 10) ∷ []) 0 0 i.0) i.1)

-- below ten: one digit
pub decimal-one : (f n : ℕ) → n < 10 → decimal (suc f) n ≡ (48 + n) ∷ []
unfolding decimal
decimal-one f n h = rw (lt-ltb n 10 h)

decimal-small : (f n : ℕ) → n < 10 → length (decimal (suc f) n) ≡ 1
decimal-small f n h = ap length (decimal-one f n h)

-- two digits at least need more than one place
more_than_one : (f n : ℕ) → 10 ≤ n → n < 10 ^ suc f → 1 ≤ f
more_than_one zero n t h = absurd (omega arith)
more_than_one (suc f) n t h = omega arith

-- room for more digits changes nothing
pub decimal-same : (f g n : ℕ) → 1 ≤ f → 1 ≤ g → n < 10 ^ f → n < 10 ^ g → decimal f n ≡ decimal g n
unfolding decimal
decimal-same zero g n a b h k = absurd (omega arith)
decimal-same (suc f) zero n a b h k = absurd (omega arith)
decimal-same (suc f) (suc g) n a b h k = go (ltb n 10) refl (decimal-same f g (n / 10))
  where
    go : (t : Bool) → ltb n 10 ≡ t → (1 ≤ f → 1 ≤ g → n / 10 < 10 ^ f → n / 10 < 10 ^ g → decimal f (n / 10) ≡ decimal g (n / 10))
        → cond t ((48 + n) ∷ []) (decimal f (n / 10) ++ (48 + n % 10) ∷ []) ≡ cond t ((48 + n) ∷ []) (decimal g (n / 10) ++ (48 + n % 10) ∷ [])
    go true e ih = refl
    go false e ih =
        let t = ltb-false n 10 e in
        rw (ih (more_than_one f n t h) (more_than_one g n t k) (omega (arith, rw pow-suc at h)) (omega (arith, rw pow-suc at k)))

-- from ten on: the digits of the tenth, and the last
decimal-last : (f n : ℕ) → 10 ≤ n → decimal (suc f) n ≡ decimal f (n / 10) ++ (48 + n % 10) ∷ []
unfolding decimal
decimal-last f n t = rw (le-ltb n 10 t)

pub decimal_more : (f n : ℕ) → 10 ≤ n → n < 10 ^ suc f → decimal (suc f) n ≡ decimal (suc f) (n / 10) ++ (48 + n % 10) ∷ []
decimal_more f n t h =
    let some = more_than_one f n t h in
    let small : n / 10 < 10 ^ f = omega (arith, rw pow-suc at h) in
    decimal-last f n t ∙ ap (λ (ds : List ℕ). ds ++ (48 + n % 10) ∷ []) (decimal-same f (suc f) (n / 10) some (omega arith) small (rw pow-suc (omega arith)))

pub decimal_needed : (f n : ℕ) → n < 10 ^ suc f → is_needed (decimal (suc f) n) ≡ true
decimal_needed f zero h = rw (le-leb (length (decimal (suc f) zero)) 1 (omega (arith, decimal-small f 0 (omega arith))))
decimal_needed f (suc n) h =
    let ds = decimal (suc f) (suc n) in
    rw (ne_eqb (get_or ds 0 0) 48 (λ e. omega (arith, decimal-first (suc f) (suc n) (omega arith) h))) (or_true (leb (length ds) 1))

pub natural-number : (n : ℕ) → n < 10 ^ 10 → is_number (natural n) ≡ true
unfolding is_number
natural-number n h =
    rw (le-leb 1 (length (natural n)) (decimal-some 9 n), le-leb (length (natural n)) 10 (decimal-length 10 10 n (omega arith) h)) (decimal_needed 9 n h)

-- a digit is of no other class
pub digit_class : (b : ℕ) → is_digit b ≡ true → class_of b ≡ 1
digit_class b h = eqb-true (class_of b) 1 h

-- the first byte is a digit
pub starts_digit : (f n : ℕ) (xs : List ℕ) → is_digit (get_or (decimal (suc f) n ++ xs) 0 0) ≡ true
starts_digit f n xs = go (decimal (suc f) n) (decimal-some f n) (decimal-digits (suc f) n)
  where
    go : (ds : List ℕ) → 1 ≤ length ds → AllDigits ds → is_digit (get_or (ds ++ xs) 0 0) ≡ true
    go [] h a = absurd (omega arith)
    go (d ∷ ds) h a = a.0

pub digits_append : (ds : List ℕ) (b : ℕ) (xs : List ℕ) → AllDigits ds → is_digit b ≡ false → digits (ds ++ b ∷ xs) ≡ ds
unfolding digits
digits_append [] b xs h e = rw e
digits_append (d ∷ ds) b xs h e = rw (h.0, digits_append ds b xs h.1 e)

-- a number that was written, with something after it that is no digit
pub number-natural : (n b : ℕ) (xs : List ℕ) → n < 10 ^ 10 → is_digit b ≡ false → numeral (natural n ++ b ∷ xs) ≡ got n (length (natural n))
unfolding numeral
number-natural n b xs h e = rw (digits_append (natural n) b xs (decimal-digits 10 n) e, natural-number n h, decimal-value 10 n h)

-- a whole number that was written, where `scan` reads its digits
pub signed_decimal_lem : (scan : List ℕ → Scan) (f : ℕ) → ((n b : ℕ) (xs : List ℕ) → n < 10 ^ suc f → is_digit b ≡ false → scan (decimal (suc f) n ++ b ∷ xs) ≡ got n (length (decimal (suc f) n)))
    → (z : ℤ) (b : ℕ) (xs : List ℕ) → nat_abs z < 10 ^ suc f → is_digit b ≡ false → signed_by scan (signed_decimal (suc f) z ++ b ∷ xs) ≡ is z (length (signed_decimal (suc f) z))
unfolding class_of
signed_decimal_lem scan f reads (pos n) b xs h e = rw (digit_class _ (starts_digit f n (b ∷ xs)), reads n b xs h e)
signed_decimal_lem scan f reads (negsuc n) b xs h e = rw (reads (suc n) b xs h e)
