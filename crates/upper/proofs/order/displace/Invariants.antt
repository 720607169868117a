-- `order::displace` meets its contract: the positions before p have the displacements of their rows.
use Rattle.upper.specs.Code.Upper.{Displaced}
use Rattle.upper.proofs.order.displace.Given as goal

abbrev pub invariant-loop-p : goal.invariant-loop-p
invariant-loop-p l = Displaced l.p l.displacements l.order l.displaced
