-- What lent byte lists stand for.
use Rattle.std.specs.Prelude.{List, ℕ}
use Rattle.matrix.specs.Matrix.{Matrix, matrix_of}
use Rattle.words.specs.LittleEndian.{unsigned, signed}

-- the matrix of n rows: row starts and columns of four bytes each, values of four in two's complement
abbrev pub matrix_in : (n : ℕ) (starts columns values : List ℕ) → Matrix
matrix_in n starts columns values = matrix_of n (unsigned 4 starts) (unsigned 4 columns) (signed 4 values)
