-- The full product, number by number.
use mathlib.Core.Path.{◌≡◌, refl, sym, ◌∙◌}
use mathlib.Core.Bool.{Bool, true, false}
use mathlib.Core.List.{List}
use Prim.Native.Nat.{ℕ, ◌≤◌}
use native.Mathlib.Omega.{arith}
use lib.Dec.{ltb}
use lib.IntN.{ℤ, pos, ◌*ℤ◌, zero-*ℤ}
use lib.ListN.{length, get_or, get_or-eq_default}
use borrow.Author.Tests.{ltb-true, ltb-false}
use Rattle.base.proofs.Fill.{length-made}
use Rattle.base.proofs.Lists.{map-range-zero}
use Rattle.base.proofs.Sums.{sum-zero}
use Rattle.matrix.specs.Matrix.{Matrix, entry, displacement}
use Rattle.matrix.specs.Product.{force_at, product}
use Rattle.matrix.proofs.Rows.{entry_past}

module _ (m : Matrix) (x : List ℤ) where
  -- there is a force for each row
  pub length-product : length (product m x) ≡ m.n
  unfolding product
  length-product = length-made (force_at m x) (product m x) m.n

  -- past the last row there is none
  force_past : (i : ℕ) → m.n ≤ i → force_at m x i ≡ pos 0
  unfolding force_at
  force_past i l = sum-zero (λ j. entry m i j *ℤ displacement x j) m.n (λ j. rw (entry_past m i j l) (zero-*ℤ (displacement x j)))

  -- the force at a number, past the last row too
  pub product_at : (i : ℕ) → get_or (product m x) i (pos 0) ≡ force_at m x i
  unfolding product
  product_at i = go (ltb i m.n) refl
    where
      go : (b : Bool) → ltb i m.n ≡ b → get_or (product m x) i (pos 0) ≡ force_at m x i
      go true e = map-range-zero (force_at m x) m.n i (pos 0) (ltb-true i m.n e)
      go false e = let l = ltb-false i m.n e in get_or-eq_default (product m x) (pos 0) (omega (arith, length-product)) ∙ sym (force_past i l)
