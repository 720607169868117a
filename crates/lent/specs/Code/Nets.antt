-- The matrix of lent bytes, and as much of it as arrays hold.
use Rattle.std.specs.Prelude.{take}
use Rattle.matrix.specs.Matrix.{Matrix, matrix_of}
use Rattle.matrix.specs.Code.Room.{max_starts, max_cells}
use Rattle.lent.specs.Bytes.{matrix_in}
use Rattle.lent.specs.declared.nets.NetBytes.{NetBytes}

abbrev pub net_of : NetBytes → Matrix
net_of b = matrix_in b.n b.row_starts.now b.columns.now b.values.now

-- what a matrix can need of lists
abbrev pub first_cells : Matrix → Matrix
first_cells m = matrix_of m.n (take max_starts m.starts) (take max_cells m.columns) (take max_cells m.values)
