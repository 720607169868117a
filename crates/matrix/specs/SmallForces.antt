-- "Force is then in mN, signed 64 bits; the largest possible sum is 4,096,000,000,000,000,000": no force of a matrix
-- and its displacements passes that, either side of 0.
use Rattle.std.specs.Prelude.{◌≡◌, true, List, ℕ, ◌<◌, ◌^◌, ℤ}
use Rattle.base.specs.Integers.{within}
use Rattle.matrix.specs.Matrix.{Matrix, is_matrix, are_displacements}
use Rattle.matrix.specs.Product.{force_at}

abbrev pub largest_force : ℕ
largest_force = 4096000000000000000

pub record SmallForces : Type 0 where
  pub small : (m : Matrix) (x : List ℤ) → is_matrix m ≡ true → are_displacements m.n x ≡ true → (i : ℕ) → within largest_force (force_at m x i) ≡ true
  pub fits : largest_force < 2 ^ 63
