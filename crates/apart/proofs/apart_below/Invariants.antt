-- `apart_below`: the children before the next one are compared.
use Prim.Native.Nat.{◌-◌}
use Rattle.shape.specs.Code.Shape.{index_of}
use Rattle.apart.proofs.Compare.{Comparing}
use Rattle.apart.proofs.apart_below.Given as goal

abbrev pub invariant-loop-next : goal.invariant-loop-next
invariant-loop-next l = Comparing l.subject l.parent l.colour l.low l.marks l.next

abbrev pub decreases-loop-next : goal.decreases-loop-next
decreases-loop-next l = l.subject.plan.count - index_of l.subject.plan.count l.next
