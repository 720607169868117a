-- What the check reads of a matrix: its rows, and not its values.
use Rattle.std.specs.Prelude.{◌≡◌, true, ℕ, ◌≤◌, ◌<◌, length, get_or}
use Rattle.base.specs.Lists.{is_in}
use Rattle.matrix.specs.Limits.{max_rows}
use Rattle.matrix.specs.Matrix.{Matrix, columns_of, neighbours}
use Rattle.matrix.specs.Code.Checks.{RowIn}

-- its rows are few and lie in its lists, their columns are rows, and rows are adjacent both ways
pub record IsGraph (m : Matrix) : Type 0 where
  pub few : m.n ≤ max_rows
  pub rows : (u : ℕ) → u < m.n → RowIn m.starts (length m.columns) u
  pub low : (u j : ℕ) → u < m.n → j < length (columns_of m u) → get_or (columns_of m u) j 0 < m.n
  pub below : (u v : ℕ) → is_in (neighbours m v) u ≡ true → u < m.n
  pub both : (u v : ℕ) → is_in (neighbours m v) u ≡ true → is_in (neighbours m u) v ≡ true
