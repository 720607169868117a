-- Matrices with the same rows: "places past n + 1 row starts, the last row's entries .. are not read".
use Rattle.std.specs.Prelude.{◌≡◌, true, ℕ}
use Rattle.matrix.specs.Matrix.{Matrix, columns_of, values_of, is_matrix}

-- m is a matrix, with the rows of the other
pub record SameRows (m other : Matrix) : Type 0 where
  pub matrix : is_matrix m ≡ true
  pub columns : (i : ℕ) → columns_of m i ≡ columns_of other i
  pub values : (i : ℕ) → values_of m i ≡ values_of other i
