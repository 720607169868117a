-- Forces are sums of at most 4,096 products of a small entry and a small displacement.
use mathlib.Core.List.{List}
use mathlib.Core.Path.{◌≡◌}
use mathlib.Core.Bool.{true}
use Prim.Native.Nat.{ℕ, ◌*◌, ◌≤◌}
use native.Mathlib.Omega.{arith}
use lib.IntN.{ℤ, nat_abs, ◌*ℤ◌}
use borrow.Author.Tests.{le-leb}
use Rattle.base.specs.Integers.{within}
use Rattle.base.proofs.Integers.{abs-mul-le}
use Rattle.base.proofs.Sums.{sum-below_bound, abs-sum}
use Rattle.matrix.specs.Limits.{max_value, max_displacement}
use Rattle.matrix.specs.Matrix.{Matrix, entry, displacement, is_matrix, are_displacements}
use Rattle.matrix.specs.Product.{force_at}
use Rattle.matrix.specs.SmallForces.{largest_force, SmallForces}
use Rattle.matrix.proofs.Matrix.{matrix_facts, small-entry, small-displacement}

module _ (m : Matrix) (x : List ℤ) (ok : is_matrix m ≡ true) (moved : are_displacements m.n x ≡ true) (i : ℕ) where
  term_small : (j : ℕ) → nat_abs (entry m i j *ℤ displacement x j) ≤ max_value * max_displacement
  term_small j = abs-mul-le (entry m i j) (displacement x j) (small-entry m ok i j) (small-displacement m.n x moved j)

  force_small : nat_abs (force_at m x i) ≤ largest_force
  unfolding force_at
  force_small =
      omega (
        arith,
        abs-sum (λ j. entry m i j *ℤ displacement x j) m.n,
        sum-below_bound (λ j. nat_abs (entry m i j *ℤ displacement x j)) m.n 1000000000000000 (λ j l. term_small j),
        (matrix_facts m ok).few,
      )

pub small-forces : SmallForces
unfolding within
small-forces = record { small = λ m x ok moved i. le-leb (nat_abs (force_at m x i)) largest_force (force_small m x ok moved i); fits = omega arith }
