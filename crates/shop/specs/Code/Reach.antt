-- How long the arrays are that nets are joined in.
use Rattle.std.specs.Prelude.{ℕ, ◌+◌, ◌≤◌, min}
use Rattle.matrix.specs.Code.Room.{max_cells}

-- room for every net that is joined of nets with so many columns
abbrev pub Ample : (first second room : ℕ) → Type 0
Ample first second room = min (first + second) max_cells ≤ room
