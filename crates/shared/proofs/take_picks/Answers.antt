-- `take_picks`: the upper triangle and its sizes, the counts, the displacements in plan order, then the picks.
use mathlib.Core.Bool.{not}
use mathlib.Core.Path.{refl, ap, ◌∙◌}
use Prim.Native.Nat.{◌/◌}
use borrow.Author.Rules.{rules}
use lib.ListN.{length}
use Rattle.base.proofs.Booleans.{fails, holds}
use Rattle.base.proofs.Lists.{get_d_zeros}
use Rattle.plan.specs.Groups.{width}
use Rattle.run.specs.Job.{job_of}
use Rattle.tables.specs.Code.Laid.{max_updates, Counted}
use Rattle.layout.specs.Code.UpdateTable.{Planned}
use Rattle.layout.proofs.GivenRows.{lent_of, planned-of}
use Rattle.layout.proofs.UpdateRoom.{rising-of}
use Rattle.steps.proofs.GivenTables.{triangle-of}
use Rattle.calls.proofs.Prepared.{given-many, given_displaced}
use Rattle.crews.specs.Crews.{Crew, crew0, crew1, job_for}
use Rattle.crews.specs.Calls.{roof_of}
use Rattle.shared.specs.Code.Held.{both_moves, roof_in}
use Rattle.shared.proofs.Sharing.{picks-refused, picks-stay, picks-answered, picks-left}
use Rattle.shared.proofs.RoofStates.{roof-planned, roof-states}
use Rattle.shared.proofs.take_picks.Goals as goal
use Rattle.shared.proofs.take_picks.Goals.{After-upper, After-first_updates-first}

planned : (c : After-upper) → let p = c.args.roof.now.plan in (d : Crew) → Planned (job_for (roof_in c.args.roof.now) d) p.groups.now (length p.groups.now / width) c.upper.new.sizes
planned c = roof-planned (both_moves c.args.roof.now) c.requires.0 c.upper.ensures.0

counted : (c : After-first_updates-first) → (d : Crew) → Counted (job_for (roof_in c.args.roof.now) d) c.first_updates-first.result
counted c d = c.first_updates-first.ensures _ (roof-planned (both_moves c.args.roof.now) c.requires.0 c.upper.ensures.0 d)

pub invariant_of-ordered : goal.invariant_of-ordered
invariant_of-ordered c = record { lent = lent_of (c.requires.0 crew0) }

pub upper-requires : goal.upper-requires
upper-requires c = (search rules, (refl, get_d_zeros max_updates))

pub first_updates-first-requires : goal.first_updates-first-requires
first_updates-first-requires c = (_, planned-of (c.requires.0 crew0) c.upper.ensures.0)

pub are_fine-requires : goal.are_fine-requires
unfolding roof_of job_of
are_fine-requires c = rising-of _ (c.requires.0 crew0).accepted (counted (goal.at.are_fine-requires c).After-first_updates-first crew0)

pub returns-then-not-are_fine : goal.returns-then-not-are_fine
unfolding roof_of job_of
returns-then-not-are_fine c =
    let a = c.args in
    let states = roof-states (both_moves a.roof.now) c.requires.0 (counted (goal.at.returns-then-not-are_fine c).After-first_updates-first) a.crews.now a.sums0.now a.sums1.now c.requires.1 c.requires.2 in
    let no = states ∙ fails c.are_fine.ensures (ap not c.if-not-are_fine.true) in
    record { answers = picks-refused _ _ no _; leaves = picks-stay _ _ no _ }

pub displace-requires : goal.displace-requires
displace-requires c = given_displaced (c.requires.0 crew0)

pub displace-requires-2 : goal.displace-requires-2
displace-requires-2 c = given_displaced (c.requires.0 crew1)

pub take-turned-requires : goal.take-turned-requires
unfolding roof_of job_of
take-turned-requires c =
    let b = goal.at.take-turned-requires c in
    let g = c.requires in (
      roof_in c.args.roof.now,
      planned b.After-upper,
      counted b.After-first_updates-first,
      triangle-of _ _ (rw (given-many (g.0 crew0)) at c.displace.ensures) c.upper.ensures.1,
      g.1,
      g.2,
    )

pub returns : goal.returns
unfolding roof_of job_of
returns c =
    let a = c.args in
    let b = goal.at.returns c in
    let g = c.requires in
    let states = roof-states (both_moves a.roof.now) g.0 (counted b.After-first_updates-first) a.crews.now a.sums0.now a.sums1.now g.1 g.2 in
    let yes = states ∙ holds c.are_fine.ensures (ap not c.if-not-are_fine.false) in
    let is = c.take-turned.ensures (roof_in a.roof.now) (planned b.After-upper) (counted b.After-first_updates-first)
    (triangle-of _ _ (rw (given-many (g.0 crew0)) at c.displace.ensures) c.upper.ensures.1)
    (triangle-of _ _ (rw (given-many (g.0 crew1)) at c.displace-2.ensures) c.upper.ensures.1) in
    record { answers = rw (c.stop_of-stop.ensures.0, c.stop_of-stop.ensures.1) (picks-answered _ _ yes _ _ is _ refl); leaves = picks-left _ _ yes _ _ is }
