-- A matrix in the lent lists that a call leaves.
use Rattle.std.specs.Prelude.{List, ℕ, ℤ}
use Rattle.base.specs.Replies.{Reply, lent}
use Rattle.matrix.specs.Matrix.{Matrix, matrix_of}

-- what a call whose answer is m leaves in lent lists
unfoldable pub matrix_left : Reply → Matrix → (starts columns : List ℕ) (values : List ℤ) → Matrix
matrix_left reply m starts columns values = matrix_of m.n (lent reply m.starts starts) (lent reply m.columns columns) (lent reply m.values values)
