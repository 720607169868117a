-- What the product asks: of a row, and of a matrix.
use Rattle.std.specs.Prelude.{◌≡◌, true, List, ℕ, ◌≤◌, ℤ, length}
use Rattle.base.specs.Lists.{all}
use Rattle.base.specs.Integers.{within}
use Rattle.matrix.specs.Limits.{max_rows, max_displacement}
use Rattle.matrix.specs.Matrix.{Matrix, is_matrix, are_displacements}
use Rattle.matrix.specs.Code.Checks.{is_ordered}

-- what the sum of a row times displacements asks: few columns, in order, as many values, and displacements within their
-- limit
pub record RowOk (columns : List ℕ) (values displacements : List ℤ) : Type 0 where
  pub order : is_ordered (length displacements) columns values ≡ true
  pub beside : length columns ≡ length values
  pub few : length displacements ≤ max_rows
  pub small : all (within max_displacement) displacements ≡ true

-- a matrix, its displacements, and room for its forces
pub record Loaded (m : Matrix) (displacements : List ℤ) (room : ℕ) : Type 0 where
  pub matrix : is_matrix m ≡ true
  pub moved : are_displacements m.n displacements ≡ true
  pub long : m.n ≤ room
