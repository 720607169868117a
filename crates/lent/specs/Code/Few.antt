-- The smaller arrays for columns and values.
use Rattle.std.specs.Prelude.{List, ℕ, ◌/◌, ◌≤◌, length}

abbrev pub few_cells : ℕ
few_cells = 16384

-- bytes of no more columns or values than that
abbrev pub IsFew : (bytes : List ℕ) → Type 0
IsFew bytes = length bytes / 4 ≤ few_cells
