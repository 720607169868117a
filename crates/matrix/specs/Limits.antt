-- The limits of document 01.
use Rattle.std.specs.Prelude.{ℕ}

-- "A matrix has n freedoms, 1 to 4,096 .. and at most 32,768 stored entries on and below the diagonal"
abbrev pub max_rows : ℕ
max_rows = 4096

abbrev pub max_entries : ℕ
max_entries = 32768

-- "Stiffness is whole N/mm, at most 1,000,000,000 either side of 0"
abbrev pub max_value : ℕ
max_value = 1000000000

-- "Movement is whole µm, at most 1,000,000 either side of 0"
abbrev pub max_displacement : ℕ
max_displacement = 1000000

-- "Text is at most 1,048,576 bytes"
abbrev pub max_text : ℕ
max_text = 1048576
