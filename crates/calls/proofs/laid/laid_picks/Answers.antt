-- `laid_picks`: the sizes, the counts, the rows of the updates, the parts of those that are reached, then the picks.
use mathlib.Core.Bool.{not}
use mathlib.Core.Path.{refl, sym, ap, ap₂, ◌∙◌}
use Prim.Native.Nat.{ℕ, ◌/◌}
use lib.Count.{ones}
use native.Mathlib.Omega.{arith}
use borrow.Author.Rules.{rules}
use lib.ListN.{length}
use Rattle.base.proofs.Booleans.{clash, fails, holds}
use Rattle.plan.specs.Groups.{width, plan_of}
use Rattle.run.specs.Job.{job_of}
use Rattle.tables.specs.Code.Laid.{Counted}
use Rattle.layout.specs.Code.UpdateTable.{Planned}
use Rattle.layout.proofs.GivenRows.{lent_of, planned-of}
use Rattle.layout.proofs.UpdateRoom.{rising-of}
use Rattle.steps.proofs.GivenTables.{job_displaced}
use Rattle.ahead.proofs.StepsAhead.{ahead_tables, ahead-updates}
use Rattle.machine.proofs.PlannedTables.{planned-blank, planned_recorded, whole-few}
use Rattle.run.specs.Answers.{picked, is_ready}
use Rattle.calls.specs.Code.Made.{told_by}
use Rattle.calls.specs.Code.Held.{job_in}
use Rattle.calls.proofs.Prepared.{given-many, given_displaced, counted-state}
use Rattle.calls.proofs.Performing.{taken_refused, taken-picks}
use Rattle.calls.proofs.laid.laid_picks.Goals as goal
use Rattle.calls.proofs.laid.laid_picks.Goals.{After-lay_sizes, After-first_updates-first}

planned : {g : _} (c : After-lay_sizes g) → let p = c.args.job.now.plan in Planned (job_in c.args.job.now) p.groups.now (length p.groups.now / width) c.lay_sizes.new.sizes
planned c = planned-of c.requires.0 c.lay_sizes.ensures.1

counted : {g : _} (c : After-first_updates-first g) → Counted (job_in c.args.job.now) c.first_updates-first.result
counted c = c.first_updates-first.ensures _ (planned-of c.requires.0 c.lay_sizes.ensures.1)

pub invariant_of-ordered : goal.invariant_of-ordered
invariant_of-ordered g c = record { lent = lent_of c.requires.0 }

pub lay_sizes-requires : goal.lay_sizes-requires
lay_sizes-requires g c = (search rules, (c.requires.2, c.requires.3))

pub invariant_of-rows : goal.invariant_of-rows
invariant_of-rows g c = record { positions = c.lay_sizes.ensures.0; sizes_are = c.lay_sizes.ensures.1 }

pub first_updates-first-requires : goal.first_updates-first-requires
first_updates-first-requires g c = (_, planned (goal.at.first_updates-first-requires g c).After-lay_sizes)

pub is_fine-requires : goal.is_fine-requires
is_fine-requires g c = rising-of _ c.requires.0.accepted (counted (goal.at.is_fine-requires g c).After-first_updates-first)

pub returns-then-not-is_fine : goal.returns-then-not-is_fine
returns-then-not-is_fine g c zs =
    taken_refused _ _ _ _ (counted-state c.requires.0 (counted (goal.at.returns-then-not-is_fine g c).After-first_updates-first) _ c.requires.1 ∙ fails c.is_fine.ensures (ap not c.if-not-is_fine.true))

pub lay_tables-tables-requires : goal.lay_tables-tables-requires
lay_tables-tables-requires g c =
    let b = goal.at.lay_tables-tables-requires g c in
    (_, planned b.After-lay_sizes, counted b.After-first_updates-first, planned-blank (planned b.After-lay_sizes))

pub lay_ahead-requires : goal.lay_ahead-requires
unfolding job_of
lay_ahead-requires g c =
    let b = goal.at.lay_ahead-requires g c in
    let p = planned b.After-lay_sizes in
    let t = c.lay_tables-tables.ensures _ p (counted b.After-first_updates-first) (planned-blank p) in
    (search rules, (c.lay_sizes.ensures.2, (_, t.2), c.requires.4))

-- there is no room
pub returns-then-not-lay_ahead : goal.returns-then-not-lay_ahead
returns-then-not-lay_ahead g c = (refl, refl, λ e. absurd (clash (c.lay_ahead.ensures.1 e) (fails refl (ap not c.if-not-lay_ahead.true))))

pub displace-requires : goal.displace-requires
displace-requires g c = given_displaced c.requires.0

pub of-course-requires : goal.of-course-requires
unfolding job_of
of-course-requires g c =
    let b = goal.at.of-course-requires g c in
    let p = planned b.After-lay_sizes in
    let t = c.lay_tables-tables.ensures _ p (counted b.After-first_updates-first) (planned-blank p) in
    (whole-few t.0, planned_recorded t.0, rw c.requires.1 t.2)

pub invariant_of-work : goal.invariant_of-work
unfolding job_of plan_of
invariant_of-work g c =
    let b = goal.at.invariant_of-work g c in
    let p = planned b.After-lay_sizes in
    let room = c.lay_ahead.new.triangle in
    let t = c.lay_tables-tables.ensures _ p (counted b.After-first_updates-first) (planned-blank p) in
    let r = c.lay_ahead.ensures.0 (holds refl (ap not c.if-not-lay_ahead.false)) in
    record { placed = rw (c.of-course.ensures.0, c.of-course.ensures.1, c.requires.1) (ahead_tables _ t.1 r t.2 (omega (arith, room.lengths)) (omega (arith, room.lengths, room.most))) }

pub walk-walked-requires : goal.walk-walked-requires
walk-walked-requires g c =
    let b = goal.at.walk-walked-requires g c in
    let p = planned b.After-lay_sizes in
    let t = c.lay_tables-tables.ensures _ p (counted b.After-first_updates-first) (planned-blank p) in
    let e = c.of-course.ensures in
    (sym e.1, rw e.0 e.2, rw e.0 (planned_recorded t.0))

pub ready_workers-ready-requires : goal.ready_workers-ready-requires
ready_workers-ready-requires g c =
    let b = goal.at.ready_workers-ready-requires g c in
    let p = planned b.After-lay_sizes in
    let t = c.lay_tables-tables.ensures _ p (counted b.After-first_updates-first) (planned-blank p) in
    let e = c.of-course.ensures in
    rw e.0 (e.2, planned_recorded t.0)

pub returns : goal.returns
unfolding job_of plan_of
returns g c zs =
    let b = goal.at.returns g c in
    let p = planned b.After-lay_sizes in
    let h = c.requires.0 in
    let t = c.lay_tables-tables.ensures _ p (counted b.After-first_updates-first) (planned-blank p) in
    let r = c.lay_ahead.ensures.0 (holds refl (ap not c.if-not-lay_ahead.false)) in
    let ahead = ahead-updates _ t.1 r (job_displaced _ _ _ _ _ _ _ (rw (given-many h) at c.displace.ensures)) in
    let fine = counted-state h (counted b.After-first_updates-first) _ c.requires.1 ∙ holds c.is_fine.ensures (ap not c.if-not-is_fine.false) in
    let taken = (rw c.of-course.ensures.0 at c.walk-walked.ensures) _ h.accepted t.0.groups_are t.1 ahead in
    let ready = (rw c.of-course.ensures.0 at c.ready_workers-ready.ensures) _ _ h.accepted t.0.groups_are t.1 in
    taken-picks _ _ _ _ fine c.rule_of.ensures _ taken _ ready
    (c.told.ensures zs ∙ ap₂ (λ (q k : ℕ). told_by c.args.call (picked c.walk-walked.result.taken q k) (is_ready c.ready_workers-ready.result (ones c.ready_workers-ready.result))) c.stop_of-stop.ensures.0 c.stop_of-stop.ensures.1)
