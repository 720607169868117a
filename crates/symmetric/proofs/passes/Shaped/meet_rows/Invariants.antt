-- `passes::Shaped::meet_rows`: the rows passed are met and their entries on and below the diagonal counted; at the end the
-- cursors decide.
use mathlib.Core.Path.{◌≡◌}
use lib.ListN.{length}
use Rattle.matrix.specs.Held.{held}
use Rattle.symmetric.proofs.RowsMet.{RowsMet}
use Rattle.symmetric.proofs.passes.Shaped.meet_rows.Given as goal

abbrev pub invariant-loop-i : goal.invariant-loop-i
invariant-loop-i l = RowsMet (held l.self.m) l.lower l.i l.cursors × (length l.cursors ≡ length l.initial.cursors)
