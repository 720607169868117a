-- The rows of a matrix that the code's lists hold.
use Rattle.std.specs.Prelude.{List, ℕ}
use Rattle.matrix.specs.Matrix.{Matrix}
use Rattle.matrix.specs.Code.Pattern.{pattern}
use Rattle.levels.specs.Code.Rows.{adj_of}
use Rattle.levels.specs.declared.graph.Graph as code

-- the matrix without its values, and the rows adjacent to a row
abbrev pub pattern_of : code.Graph → Matrix
pattern_of g = pattern g.m.n g.m.starts.now g.m.columns.now

abbrev pub adj : code.Graph → ℕ → List ℕ
adj g = adj_of g.m.n g.m.starts.now g.m.columns.now
