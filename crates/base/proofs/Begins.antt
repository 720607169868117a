-- Whether a list begins with another: element by element, and what it comes to.
use mathlib.Core.Path.{◌≡◌, refl, ap}
use mathlib.Core.Bool.{true, false}
use mathlib.Core.List.{List, [], ◌∷◌, ◌++◌}
use Prim.Native.Nat.{ℕ, ◌+◌, ◌≤◌, ◌<◌}
use native.Mathlib.Numerals.{add-one}
use native.Mathlib.Omega.{arith}
use lib.Dec.{eqb}
use lib.ListN.{length, get_or, drop, length-append, drop_of_length-le}
use lib.Seq.{drop-cons}
use borrow.Author.Tests.{eqb-true, eq-eqb, ne_eqb}
use Rattle.base.specs.Lists.{begins}
use Rattle.base.proofs.Booleans.{and_left, and_right, clash}

module _ (xs ys : List ℕ) (i : ℕ) where
  module _ (h : i < length ys) where
    -- the next element is the same, is another, or is not there
    pub begins_more : i < length xs → get_or xs i 0 ≡ get_or ys i 0 → begins (drop i xs) (drop i ys) ≡ begins (drop (i + 1) xs) (drop (i + 1) ys)
    begins_more l e = rw (add-one i, drop-cons xs i 0 l, drop-cons ys i 0 h, eq-eqb (get_or xs i 0) (get_or ys i 0) e)

    pub begins_bad : i < length xs → (get_or xs i 0 ≡ get_or ys i 0 → ⊥) → begins (drop i xs) (drop i ys) ≡ false
    begins_bad l e = rw (drop-cons xs i 0 l, drop-cons ys i 0 h, ne_eqb (get_or xs i 0) (get_or ys i 0) e)

    pub begins-short : length xs ≤ i → begins (drop i xs) (drop i ys) ≡ false
    begins-short l = rw (drop_of_length-le xs l, drop-cons ys i 0 h)

  -- nothing is left to compare
  pub begins_end : length ys ≤ i → begins (drop i xs) (drop i ys) ≡ true
  begins_end h = rw (drop_of_length-le ys h)

pub begins-append : (ys xs : List ℕ) → begins (ys ++ xs) ys ≡ true
begins-append [] xs = refl
begins-append (y ∷ ys) xs = rw (eq-eqb y y refl) (begins-append ys xs)

pub begins-split : (xs ys : List ℕ) → begins xs ys ≡ true → xs ≡ ys ++ drop (length ys) xs
begins-split xs [] h = refl
begins-split [] (y ∷ ys) h = absurd (clash h refl)
begins-split (x ∷ xs) (y ∷ ys) h =
    let one : x ≡ y = eqb-true x y (and_left (eqb x y) (begins xs ys) h) in
    rw one (ap (λ (zs : List ℕ). y ∷ zs) (begins-split xs ys (and_right (eqb x y) (begins xs ys) h)))

-- .. so it is at least as long
pub begins-length : (xs ys : List ℕ) → begins xs ys ≡ true → length ys ≤ length xs
begins-length xs ys h = omega (arith, ap length (begins-split xs ys h), length-append ys (drop (length ys) xs))
