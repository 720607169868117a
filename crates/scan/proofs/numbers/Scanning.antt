-- Digits and spaces at a position of a text, one byte more.
use mathlib.Core.Path.{◌≡◌, refl, ap}
use mathlib.Core.Bool.{Bool, true, false}
use mathlib.Core.List.{List, [], ◌∷◌}
use Prim.Native.Nat.{ℕ, suc, ◌+◌, ◌≤◌, ◌<◌}
use native.Mathlib.Omega.{arith}
use lib.Dec.{ltb, eqb}
use lib.ListN.{length, get_or, drop, drop_of_length-le, get_or-eq_default}
use borrow.Author.Tests.{ltb-true, ltb-false, eq-eqb, ne_eqb, eqb-true, eqb-false}
use Rattle.market.specs.Bytes.{class_of}
use Rattle.market.proofs.Classes.{class_means}
use Rattle.market.specs.Fields.{digits, spaces}
use Rattle.scan.proofs.Left.{left-cons}

-- past the end no byte has a class
pub class_inside : (s : List ℕ) (i : ℕ) → 0 < class_of (get_or s i 0) → i < length s
unfolding class_of
class_inside s i h = go (ltb i (length s)) refl
  where
    go : (b : Bool) → ltb i (length s) ≡ b → i < length s
    go true t = ltb-true i (length s) t
    go false t = let z = rw (get_or-eq_default s 0 (ltb-false i (length s) t)) at h in absurd (omega arith)

module _ (s : List ℕ) (i : ℕ) where
  pub spaces_more : i < length s → class_of (get_or s i 0) ≡ 3 → spaces (drop i s) ≡ suc (spaces (drop (i + 1) s))
  unfolding spaces
  spaces_more h e = rw (left-cons s i h, eq-eqb (class_of (get_or s i 0)) 3 e)

  pub spaces_end : length s ≤ i → spaces (drop i s) ≡ 0
  unfolding spaces
  spaces_end h = rw (drop_of_length-le s h)

  pub spaces_stop : (class_of (get_or s i 0) ≡ 3 → ⊥) → spaces (drop i s) ≡ 0
  unfolding spaces
  spaces_stop e = go (ltb i (length s)) refl
    where
      go : (b : Bool) → ltb i (length s) ≡ b → spaces (drop i s) ≡ 0
      go true t = rw (left-cons s i (ltb-true i (length s) t), ne_eqb (class_of (get_or s i 0)) 3 e)
      go false t = spaces_end (ltb-false i (length s) t)

  -- one space at least: those from the next position on are skipped
  pub spaces_led : class_of (get_or s i 0) ≡ 3 → (p : ℕ) → p ≡ i + 1 + spaces (drop (i + 1) s) → (p ≡ i + spaces (drop i s)) × (i < p)
  spaces_led e p f = let m = spaces_more (class_inside s i (omega (arith, e))) e in (omega arith, omega arith)

  pub digits_more : i < length s → class_of (get_or s i 0) ≡ 1 → digits (drop i s) ≡ get_or s i 0 ∷ digits (drop (i + 1) s)
  unfolding digits
  digits_more h e = rw (left-cons s i h, eq-eqb (class_of (get_or s i 0)) 1 e)

  pub digits_end : length s ≤ i → digits (drop i s) ≡ []
  unfolding digits
  digits_end h = rw (drop_of_length-le s h)

  pub digits_stop : (class_of (get_or s i 0) ≡ 1 → ⊥) → digits (drop i s) ≡ []
  unfolding digits
  digits_stop e = go (ltb i (length s)) refl
    where
      go : (b : Bool) → ltb i (length s) ≡ b → digits (drop i s) ≡ []
      go true t = rw (left-cons s i (ltb-true i (length s) t), ne_eqb (class_of (get_or s i 0)) 1 e)
      go false t = digits_end (ltb-false i (length s) t)

-- a byte of class 1 is a digit
pub digit_range : (b : ℕ) → class_of b ≡ 1 → (48 ≤ b) × (b ≤ 57)
digit_range b h = class_means b 1 h

-- the first digit at a position is the byte there
pub first_digit : (s : List ℕ) (at : ℕ) → 0 < length (digits (drop at s)) → (at < length s) × (get_or (digits (drop at s)) 0 0 ≡ get_or s at 0)
first_digit s at h = go (eqb (class_of (get_or s at 0)) 1) refl
  where
    go : (t : Bool) → eqb (class_of (get_or s at 0)) 1 ≡ t → (at < length s) × (get_or (digits (drop at s)) 0 0 ≡ get_or s at 0)
    go true e =
        let c = eqb-true (class_of (get_or s at 0)) 1 e in
        let l = class_inside s at (omega (arith, c)) in
        (l, rw (digits_more s at l c))
    go false e = absurd (omega (arith, ap length (digits_stop s at (eqb-false (class_of (get_or s at 0)) 1 e))))
