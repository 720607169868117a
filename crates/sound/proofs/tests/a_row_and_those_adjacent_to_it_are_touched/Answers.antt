-- The chain of four rows is a graph, since it is a matrix, as the test asserts.
use mathlib.Core.Path.{sym}
use Rattle.apart.proofs.RowsOf.{is_graph}
use Rattle.sound.proofs.tests.a_row_and_those_adjacent_to_it_are_touched.Goals as goal

pub invariant_of-net : goal.invariant_of-net
invariant_of-net g c = record { graph = is_graph _ _ _ _ (sym c.if-assert.ensures) _ }
