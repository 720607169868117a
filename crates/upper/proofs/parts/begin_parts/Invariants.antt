-- `parts::begin_parts` meets its contract: the positions before p have their parts.
use Rattle.upper.specs.Code.Triangle.{order_of}
use Rattle.upper.specs.Code.Upper.{Begun}
use Rattle.upper.proofs.parts.begin_parts.Given as goal

abbrev pub invariant-loop-p : goal.invariant-loop-p
invariant-loop-p l = Begun l.p l.ordered.m.starts.now (order_of l.ordered) l.parts
