-- Displacements and forces in arrays.
use Rattle.std.specs.Prelude.{◌≡◌, List, ℕ, ℤ, take}
use Rattle.matrix.specs.Code.Room.{max_starts}
use Rattle.words.specs.LittleEndian.{signed}

-- what bytes stand for, cut to one number more than any matrix has rows
pub record Decoded (movements forces : List ℕ) (displacements sums : List ℤ) : Type 0 where
  pub moved : displacements ≡ take max_starts (signed 4 movements)
  pub kept : sums ≡ take max_starts (signed 8 forces)
