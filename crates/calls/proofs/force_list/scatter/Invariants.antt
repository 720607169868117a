-- `scatter`: the rows before position p have their sums.
use lib.ListN.{length, take}
use Rattle.calls.specs.Code.Scatter.{Scattered}
use Rattle.calls.proofs.force_list.scatter.Given as goal

abbrev pub invariant-loop-p : goal.invariant-loop-p
invariant-loop-p l = Scattered l.p (length l.sums) (take (length l.sums) l.order) l.sums l.initial.forces l.forces
