use mathlib.Core.Path.{◌≡◌}
use Rattle.prepared.specs.Gates.{behind}
use Rattle.picking.specs.Code.Reads.{gate_at}
use Rattle.picking.proofs.gates.is_behind.Given as goal

abbrev pub invariant-loop-v : goal.invariant-loop-v
invariant-loop-v l = l.late ≡ behind l.made (gate_at l.list l.at) l.v
