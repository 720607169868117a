-- Room for the lists of every matrix.
use Rattle.std.specs.Prelude.{◌≡◌, ℕ, ◌+◌, ◌*◌, min}
use Rattle.matrix.specs.Limits.{max_rows, max_entries}

-- where each row starts, and where the last ends; and the entries of full rows
abbrev pub max_starts : ℕ
max_starts = max_rows + 1

abbrev pub max_cells : ℕ
max_cells = 2 * max_entries

-- an array of so many places holds of a list of `count` numbers what one of max_cells does
abbrev pub Reaches : (places count : ℕ) → Type 0
Reaches places count = min places count ≡ min max_cells count
