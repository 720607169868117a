-- `counts::count_updates` meets its contract: the leaves before record i are counted.
use Prim.Native.Nat.{◌/◌}
use lib.ListN.{length}
use Rattle.plan.specs.Groups.{width}
use Rattle.run.specs.Job.{Job}
use Rattle.layout.specs.Code.UpdateTable.{Numbers, reached}
use Rattle.layout.specs.Code.SizedPlan.{PlannedBy}
use Rattle.layout.proofs.counts.count_updates.Given as goal

abbrev pub invariant-loop-i : goal.invariant-loop-i
invariant-loop-i l = ((j : Job) → PlannedBy j l.plan → Numbers j (reached (length l.plan.groups.now / width) l.plan.groups.now l.i) l.first)
