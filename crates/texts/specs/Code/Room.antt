-- How long the arrays are that a matrix is made in.
use Rattle.std.specs.Prelude.{List, ℕ, ◌/◌, ◌≤◌, min, length}
use Rattle.matrix.specs.Code.Room.{max_cells}

-- an array of so many cells has as much room as a list in bytes, or as every matrix needs
abbrev pub Ample : (cells : ℕ) (bytes : List ℕ) → Type 0
Ample cells bytes = (cells ≤ max_cells) × (min (length bytes / 4) max_cells ≤ cells)
