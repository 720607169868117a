-- `order::positions` meets its contract: the rows before position p have their positions.
use lib.ListN.{take}
use Rattle.upper.specs.Code.Upper.{Positions}
use Rattle.upper.proofs.order.positions.Given as goal

abbrev pub invariant-loop-p : goal.invariant-loop-p
invariant-loop-p l = Positions l.p (take l.n l.order) l.position
