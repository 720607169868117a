-- Counting the elements of a list that pass a test.
use mathlib.Core.Path.{◌≡◌, refl, ap}
use mathlib.Core.Bool.{Bool, true, false}
use mathlib.Core.List.{List, [], ◌∷◌}
use Prim.Native.Nat.{ℕ, ◌+◌, ◌≤◌, ◌<◌}
use native.Mathlib.Numerals.{add-one}
use native.Mathlib.Omega.{arith}
use lib.ListN.{length, take, drop, get_or, length-append, take-append-drop}
use lib.Seq.{take-suc}
use Rattle.base.specs.Lists.{filter, bit}
use Rattle.base.proofs.Lists.{filter-append}

module _ (p : ℕ → Bool) (xs : List ℕ) where
  -- one element more
  pub filter-next : (i : ℕ) → i < length xs → length (filter p (take (i + 1) xs)) ≡ length (filter p (take i xs)) + bit (p (get_or xs i 0))
  filter-next i l =
      rw (add-one i, take-suc xs i 0, filter-append p (take i xs) (get_or xs i 0 ∷ []), length-append (filter p (take i xs)) (filter p (get_or xs i 0 ∷ []))) (one (p (get_or xs i 0)) refl)
    where
      one : (b : Bool) → p (get_or xs i 0) ≡ b → length (filter p (take i xs)) + length (filter p (get_or xs i 0 ∷ [])) ≡ length (filter p (take i xs)) + bit b
      one true e = rw e
      one false e = rw e

  -- the first ones are no more
  pub filter-part : (i : ℕ) → length (filter p (take i xs)) ≤ length (filter p xs)
  filter-part i = omega (arith, ap (λ (ys : List ℕ). length (filter p ys)) (take-append-drop i xs), ap length (filter-append p (take i xs) (drop i xs)), length-append (filter p (take i xs)) (filter p (drop i xs)))
