-- `fill` meets its contract: the records before i have been walked.
use Prim.Native.Nat.{◌/◌}
use lib.ListN.{length}
use Rattle.plan.specs.Groups.{width}
use Rattle.run.specs.Job.{Job}
use Rattle.tables.specs.Code.Laid.{Counted}
use Rattle.layout.specs.Code.UpdateTable.{Walked, Blank, reached}
use Rattle.layout.specs.Code.SizedPlan.{PlannedBy}
use Rattle.layout.proofs.fill.Given as goal

abbrev pub invariant-loop-i : goal.invariant-loop-i
invariant-loop-i l =
    let u = l.updates in
    let v = l.initial.updates in
    ((j : Job) → PlannedBy j l.plan → Counted j l.first → Blank j.matrix.n v.row v.begins v.leaves v.ends
    → Walked j (reached (length l.plan.groups.now / width) l.plan.groups.now l.i) l.i l.next u.row u.begins u.leaves u.ends)
