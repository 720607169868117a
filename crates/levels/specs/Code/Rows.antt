-- What the search reads: the rows of a matrix in lent row starts and columns.
use Rattle.std.specs.Prelude.{◌≡◌, true, List, ℕ, ◌+◌, ◌*◌, ◌≤◌, ◌<◌, length, get_or}
use Rattle.base.specs.Lists.{is_in}
use Rattle.matrix.specs.Limits.{max_rows, max_entries}
use Rattle.matrix.specs.Code.Pattern.{pattern}
use Rattle.matrix.specs.Matrix.{columns_of, neighbours}
use Rattle.levels.specs.Levels.{degree}

-- the rows adjacent to a row
abbrev pub adj_of : (n : ℕ) (starts columns : List ℕ) → ℕ → List ℕ
adj_of n starts columns = neighbours (pattern n starts columns)

-- n + 1 row starts that do not fall, all rows inside the columns, every column a row, rows adjacent both ways, not too
-- many entries, and no row adjacent to all
pub record Rows (n : ℕ) (starts columns : List ℕ) : Type 0 where
  pub small : n ≤ max_rows
  pub long : n < length starts
  pub up : (v : ℕ) → v < n → get_or starts v 0 ≤ get_or starts (v + 1) 0
  pub fits : (v : ℕ) → v < n → get_or starts (v + 1) 0 ≤ length columns
  pub inside : (v j : ℕ) → is_in (columns_of (pattern n starts columns) v) j ≡ true → j < n
  pub both : (u v : ℕ) → is_in (adj_of n starts columns v) u ≡ true → is_in (adj_of n starts columns u) v ≡ true
  pub few : get_or starts n 0 ≤ 2 * max_entries
  pub short : (v : ℕ) → v < n → degree (adj_of n starts columns) v < n
