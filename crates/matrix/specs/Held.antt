-- The matrix that the code's lists hold.
use Rattle.matrix.specs.Matrix.{Matrix, matrix_of}
use Rattle.matrix.specs.declared.lists.Matrix as code

abbrev pub held : code.Matrix → Matrix
held m = matrix_of m.n m.starts.now m.columns.now m.values.now
