-- `report`: the accesses are counted; then the ready set, or the force list.
use mathlib.Core.Bool.{true, not}
use mathlib.Core.Path.{◌≡◌, sym, ap, ◌∙◌}
use Prim.Native.Nat.{ℕ, ◌/◌}
use lib.ListN.{length, take}
use Rattle.base.proofs.Booleans.{fails, holds}
use Rattle.plan.specs.Groups.{width}
use Rattle.run.specs.Machine.{is_state}
use Rattle.tables.specs.Code.Laid.{Counted}
use Rattle.layout.specs.Code.UpdateTable.{Planned}
use Rattle.layout.proofs.GivenRows.{lent_of, few-rows, planned-of}
use Rattle.layout.proofs.UpdateRoom.{rising-of}
use Rattle.machine.specs.Record.{state_of}
use Rattle.machine.proofs.PlannedTables.{planned_record, read-crew, read-few}
use Rattle.calls.specs.Code.Held.{job_in}
use Rattle.calls.proofs.Prepared.{job-rows, job-order, given-order, counted-state, counted-over}
use Rattle.calls.proofs.Performing.{asks_ready, made-refused, made-ready, made-forces}
use Rattle.calls.proofs.report.Goals as goal
use Rattle.calls.proofs.report.Goals.{After-sizes_of, After-first_updates-first, Else-not-is_fine}

planned : (c : After-sizes_of) → let p = c.args.job.now.plan in Planned (job_in c.args.job.now) p.groups.now (length p.groups.now / width) c.sizes_of.new.sizes
planned c = planned-of c.requires.0 c.sizes_of.ensures.1

counted : (c : After-first_updates-first) → Counted (job_in c.args.job.now) c.first_updates-first.result
counted c = c.first_updates-first.ensures _ (planned-of c.requires.0 c.sizes_of.ensures.1)

fine : (c : Else-not-is_fine) → is_state (job_in c.args.job.now) (state_of c.args.state c.args.sums.now) ≡ true
fine c = counted-state c.requires.0 (c.first_updates-first.ensures _ (planned-of c.requires.0 c.sizes_of.ensures.1)) _ c.requires.1 ∙ holds c.is_fine.ensures (ap not c.if-not-is_fine.false)

pub invariant_of-ordered : goal.invariant_of-ordered
invariant_of-ordered c = record { lent = lent_of c.requires.0 }

pub first_updates-first-requires : goal.first_updates-first-requires
first_updates-first-requires c = (_, planned (goal.at.first_updates-first-requires c).After-sizes_of)

pub is_fine-requires : goal.is_fine-requires
is_fine-requires c = rising-of _ c.requires.0.accepted (counted (goal.at.is_fine-requires c).After-first_updates-first)

pub returns-then-not-is_fine : goal.returns-then-not-is_fine
returns-then-not-is_fine c schedule d p =
    made-refused _ _ _ _ (counted-state c.requires.0 (counted (goal.at.returns-then-not-is_fine c).After-first_updates-first) _ c.requires.1 ∙ fails c.is_fine.ensures (ap not c.if-not-is_fine.true))

-- ---- the ready set
pub ready_set-requires : goal.ready_set-requires
ready_set-requires c = (_, planned (goal.at.ready_set-requires c).After-sizes_of, counted (goal.at.ready_set-requires c).After-first_updates-first)

pub returns-in_default : goal.returns-in_default
returns-in_default c schedule d p =
    let b = goal.at.returns-in_default c in
    rw (asks_ready _ c.in_default.not-ForceList d p)
    (made-ready _ _ _ (fine b.Else-not-is_fine) _ (c.ready_set.ensures _ _ (planned b.After-sizes_of) (counted b.After-first_updates-first)))

-- ---- the force list
pub get-whole-requires : goal.get-whole-requires
get-whole-requires c = planned_record (planned (goal.at.get-whole-requires c).After-sizes_of)

pub is_finished-is_over-requires : goal.is_finished-is_over-requires
is_finished-is_over-requires c =
    let b = goal.at.is_finished-is_over-requires c in
    (read-few (planned b.After-sizes_of) c.get-whole.result c.get-whole.ensures, rising-of _ c.requires.0.accepted (counted b.After-first_updates-first))

pub force_list-requires : goal.force_list-requires
force_list-requires c =
    let o = given-order c.requires.0 in
    rw c.requires.1 (o.0, o.1, few-rows c.requires.0)

pub returns : goal.returns
returns c schedule d p =
    let b = goal.at.returns c in
    rw c.in-ForceList.is
    (made-forces _ _ _ (fine b.Else-not-is_fine) _
    (c.is_finished-is_over.ensures ∙ counted-over c.requires.0 (counted b.After-first_updates-first) _ (read-crew (planned b.After-sizes_of) c.get-whole.result c.get-whole.ensures)) _ _
    (rw c.requires.1 at (c.force_list.ensures (job_in c.args.job.now) (job-rows _ _ _ _ _ ∙ sym c.requires.1) (job-order _ _ _ _ _ ∙ ap (λ (k : ℕ). take k c.args.job.now.plan.order.now) (sym c.requires.1)))))
