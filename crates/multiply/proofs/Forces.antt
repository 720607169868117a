-- The forces of a matrix: each row's is the sum over its stored entries.
use mathlib.Core.Path.{◌≡◌}
use mathlib.Core.List.{List}
use Prim.Native.Nat.{ℕ, ◌<◌}
use native.Mathlib.Omega.{arith}
use lib.Dec.{eqb}
use lib.IntN.{ℤ, ◌*ℤ◌}
use lib.ListN.{length}
use Rattle.base.specs.Lists.{all}
use Rattle.base.specs.Integers.{within, sumℤ}
use Rattle.base.proofs.Booleans.{and_right}
use Rattle.matrix.specs.Limits.{max_displacement}
use Rattle.matrix.specs.Matrix.{Matrix, columns_of, values_of, lookup, entry, displacement, are_displacements}
use Rattle.multiply.specs.Code.Loaded.{RowOk, Loaded}
use Rattle.matrix.specs.Product.{force_at}
use Rattle.matrix.proofs.Matrix.{displacements-many}
use Rattle.matrix.proofs.Checks.{shape, matrix_tidy}
use Rattle.matrix.proofs.Symmetry.{row-ordered, row_lengths}

-- cs and vs are the columns and values of row i
module _ (m : Matrix) (x : List ℤ) {room : ℕ} (g : Loaded m x room) (i : ℕ) (l : i < m.n) {cs : List ℕ} {vs : List ℤ} (e : cs ≡ columns_of m i) (f : vs ≡ values_of m i) where
  counted : length x ≡ m.n
  counted = displacements-many m.n x g.moved

  pub row_ok : RowOk cs vs x
  unfolding are_displacements
  row_ok = record {
    order = rw (e, f, counted) (row-ordered m (matrix_tidy m g.matrix).order i l);
    beside = row_lengths m (matrix_tidy m g.matrix).shape i l e f;
    few = omega (arith, counted, (shape m (matrix_tidy m g.matrix).shape).few);
    small = and_right (eqb (length x) m.n) (all (within max_displacement) x) g.moved;
  }

  pub force_row : sumℤ (λ j. lookup j cs vs *ℤ displacement x j) (length x) ≡ force_at m x i
  unfolding force_at entry
  force_row = rw (e, f, counted)
