-- Loops that test every element of a list and answer at the end alone: what was found of those passed decides, with
-- those that are left.
use mathlib.Core.Path.{◌≡◌, refl, sym, ap, ◌∙◌}
use mathlib.Core.Bool.{Bool, true, ◌&&◌, and-true, and_assoc}
use mathlib.Core.List.{List}
use Prim.Native.Nat.{ℕ, zero, suc, ◌+◌, ◌≤◌, ◌<◌}
use native.Mathlib.Numerals.{add-one}
use native.Mathlib.Omega.{arith}
use lib.ListN.{length, get_or, drop}
use lib.Seq.{drop-cons}
use Rattle.base.specs.Lists.{all, range}
use Rattle.base.proofs.Lists.{length-range}
use Rattle.base.proofs.Left.{all-drop-none}

module _ {A : Type 0} (p : A → Bool) (xs : List A) where
  pub record Found (found : Bool) (k : ℕ) : Type 0 where
    pub here : k ≤ length xs
    pub left : found && all p (drop k xs) ≡ all p xs

  pub found_none : Found true 0
  found_none = record { here = omega arith; left = refl }

  -- the element at place k is tested too
  pub found-next : (d : A) {found more : Bool} {k : ℕ} → Found found k → k < length xs → more ≡ found && p (get_or xs k d) → Found more (k + 1)
  found-next d {found} {more} {k} f l e =
      let x = get_or xs k d in
      let next : all p (drop k xs) ≡ p x && all p (drop (k + 1) xs) = rw (add-one k, drop-cons xs k d l) in
      record { here = omega arith; left = rw e (and_assoc found (p x) (all p (drop (k + 1) xs)) ∙ ap (λ (b : Bool). found && b) (sym next) ∙ f.left) }

  pub found_all : {found : Bool} {k : ℕ} → Found found k → length xs ≤ k → found ≡ all p xs
  found_all {found} {k} f l =
      let e : k ≡ length xs = omega (arith, f.here) in
      sym (and-true found) ∙ ap (λ (b : Bool). found && b) (sym (all-drop-none p xs)) ∙ (rw e at f.left)

-- the numbers from 0 to n - 1
range-get : (k n i : ℕ) → i < n → get_or (range k n) i 0 ≡ k + i
range-get k zero i l = absurd (omega arith)
range-get k (suc n) zero l = omega arith
range-get k (suc n) (suc i) l = omega (arith, range-get (suc k) n i (omega arith))

module _ (p : ℕ → Bool) (n : ℕ) where
  pub found_number : {found more : Bool} {i : ℕ} → Found p (range 0 n) found i → i < n → more ≡ found && p i → Found p (range 0 n) more (i + 1)
  found_number {found} {more} {i} f l e =
      let at : get_or (range 0 n) i 0 ≡ i = omega (arith, range-get 0 n i l) in
      found-next p (range 0 n) 0 f (omega (arith, length-range 0 n)) (rw at e)

  pub found-numbers : {found : Bool} {i : ℕ} → Found p (range 0 n) found i → n ≤ i → found ≡ all p (range 0 n)
  found-numbers f l = found_all p (range 0 n) f (omega (arith, length-range 0 n))
