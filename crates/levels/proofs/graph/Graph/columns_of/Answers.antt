-- What is read between two row starts are the row's columns.
use mathlib.Core.Path.{◌∙◌, sym}
use Rattle.matrix.proofs.Rows.{columns-part}
use Rattle.levels.specs.Code.Graph.{pattern_of}
use Rattle.levels.proofs.graph.Graph.columns_of.Goals as goal

pub returns : goal.returns
returns c = c.columns_of.ensures ∙ sym (columns-part (pattern_of c.args.self.now) c.args.v c.requires)
