-- A matrix without its values.
use Rattle.std.specs.Prelude.{List, [], ℕ}
use Rattle.matrix.specs.Matrix.{Matrix}

-- the matrix of lent row starts and columns, as far as adjacency looks at it
abbrev pub pattern : (n : ℕ) (starts columns : List ℕ) → Matrix
pattern n starts columns = record { n = n; starts = starts; columns = columns; values = [] }
