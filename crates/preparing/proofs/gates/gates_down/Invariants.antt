-- `gates_down` meets its contract: the records before index i are treated.
use Rattle.preparing.specs.Code.Gates.{Gated}
use Rattle.preparing.proofs.gates.gates_down.Given as goal

abbrev pub invariant-loop-i : goal.invariant-loop-i
invariant-loop-i l = Gated l.i l.groups l.reds l.gates
