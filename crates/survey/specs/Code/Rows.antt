-- What the amounts and the shift ask: of a row, and of a matrix.
use Rattle.std.specs.Prelude.{◌≡◌, true, List, ℕ, ◌≤◌, ℤ, pos, nat_abs, length, get_or}
use Rattle.base.specs.Lists.{sum_below}
use Rattle.matrix.specs.Limits.{max_rows}
use Rattle.matrix.specs.Matrix.{Matrix, ascending, is_matrix}
use Rattle.matrix.specs.Code.Checks.{place_in}
use Rattle.survey.specs.Survey.{max_error}

-- the sum of the first k of some values, taken without sign
unfoldable pub sizes_to : List ℤ → ℕ → ℕ
sizes_to vs k = sum_below (λ i. nat_abs (get_or vs i (pos 0))) k

-- a matrix, an error and room for its amounts
pub record Amounting (m : Matrix) (t room : ℕ) : Type 0 where
  pub matrix : is_matrix m ≡ true
  pub error : t ≤ max_error
  pub long : m.n ≤ room

-- of a row's columns, k stand before column j
pub record Passed (columns : List ℕ) (k j : ℕ) : Type 0 where
  pub ascends : ascending columns ≡ true
  pub passed : k ≡ place_in columns j
  pub low : k ≤ j

-- a row, an error and room for a shift of n displacements
pub record Shifting (columns : List ℕ) (values : List ℤ) (t n room : ℕ) : Type 0 where
  pub ascends : ascending columns ≡ true
  pub beside : length columns ≡ length values
  pub error : t ≤ max_error
  pub few : n ≤ max_rows
  pub long : n ≤ room
