-- `look`: the accesses are counted; then the ready sets.
use mathlib.Core.Bool.{not}
use mathlib.Core.Path.{refl, ap, ◌∙◌}
use Prim.Native.Nat.{◌/◌}
use lib.ListN.{length}
use Rattle.base.proofs.Booleans.{fails, holds}
use Rattle.plan.specs.Groups.{width}
use Rattle.run.specs.Job.{job_of}
use Rattle.tables.specs.Code.Laid.{Counted}
use Rattle.layout.specs.Code.UpdateTable.{Planned}
use Rattle.layout.proofs.GivenRows.{lent_of, planned-of}
use Rattle.layout.proofs.UpdateRoom.{rising-of}
use Rattle.crews.specs.Crews.{Crew, crew0, job_for}
use Rattle.crews.specs.Calls.{roof_of}
use Rattle.shared.specs.Code.Held.{both_moves, roof_in}
use Rattle.shared.proofs.Sharing.{sets-refused, sets-answered}
use Rattle.shared.proofs.RoofStates.{roof-planned, roof-states}
use Rattle.shared.proofs.look.Goals as goal
use Rattle.shared.proofs.look.Goals.{After-sizes_of, After-first_updates-first}

planned : (c : After-sizes_of) → let p = c.args.roof.now.plan in (d : Crew) → Planned (job_for (roof_in c.args.roof.now) d) p.groups.now (length p.groups.now / width) c.sizes_of.new.sizes
planned c = roof-planned (both_moves c.args.roof.now) c.requires c.sizes_of.ensures.1

counted : (c : After-first_updates-first) → (d : Crew) → Counted (job_for (roof_in c.args.roof.now) d) c.first_updates-first.result
counted c d = c.first_updates-first.ensures _ (roof-planned (both_moves c.args.roof.now) c.requires c.sizes_of.ensures.1 d)

pub invariant_of-ordered : goal.invariant_of-ordered
invariant_of-ordered c = record { lent = lent_of (c.requires crew0) }

pub first_updates-first-requires : goal.first_updates-first-requires
first_updates-first-requires c =
    let g = c.requires crew0 in
    (_, planned-of g c.sizes_of.ensures.1)

pub are_fine-requires : goal.are_fine-requires
unfolding roof_of job_of
are_fine-requires c = rising-of _ (c.requires crew0).accepted (counted (goal.at.are_fine-requires c).After-first_updates-first crew0)

pub returns-then-not-are_fine : goal.returns-then-not-are_fine
returns-then-not-are_fine c sums0 sums1 l0 l1 =
    sets-refused _ _ (roof-states (both_moves c.args.roof.now) c.requires (counted (goal.at.returns-then-not-are_fine c).After-first_updates-first) c.args.crews sums0 sums1 l0 l1 ∙ fails c.are_fine.ensures (ap not c.if-not-are_fine.true))

pub ready_sets-requires : goal.ready_sets-requires
ready_sets-requires c = let b = goal.at.ready_sets-requires c in (_, planned b.After-sizes_of, counted b.After-first_updates-first)

pub returns : goal.returns
returns c sums0 sums1 l0 l1 =
    let b = goal.at.returns c in
    sets-answered _ _ (roof-states (both_moves c.args.roof.now) c.requires (counted b.After-first_updates-first) c.args.crews sums0 sums1 l0 l1 ∙ holds c.are_fine.ensures (ap not c.if-not-are_fine.false))
    (c.ready_sets.ensures _ _ (planned b.After-sizes_of) (counted b.After-first_updates-first) refl refl)
