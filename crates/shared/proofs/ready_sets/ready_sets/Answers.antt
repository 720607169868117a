-- `ready_sets`: the rows of the updates, the blocked groups of each crew, then one bit a worker.
use mathlib.Core.Path.{ap₂, ◌∙◌}
use Rattle.machine.proofs.BlockedLeaves.{whole-crew, waits-of}
use Rattle.machine.proofs.PlannedTables.{planned-blank, planned_recorded, whole-few}
use Rattle.crews.specs.Crews.{Crew, crew0, crew1, job_for}
use Rattle.crews.specs.Calls.{ReadySet, sets, ready_both}
use Rattle.steps.proofs.GivenTables.{row_tables-most}
use Rattle.shared.proofs.Sharing.{ready-set}
use Rattle.shared.proofs.ready_sets.ready_sets.Goals as goal

pub lay_tables-tables-requires : goal.lay_tables-tables-requires
lay_tables-tables-requires c = let s = c.requires in (_, s.1 crew0, s.2 crew0, planned-blank (s.1 crew0))

pub of-requires : goal.of-requires
of-requires c =
    let s = c.requires in
    let t = c.lay_tables-tables.ensures _ (s.1 crew0) (s.2 crew0) (planned-blank (s.1 crew0)) in
    (whole-few t.0, planned_recorded t.0, (row_tables-most _ t.1 t.2).bounded)

pub invariant_of-by_rows : goal.invariant_of-by_rows
invariant_of-by_rows c =
    let s = c.requires in
    let t = c.lay_tables-tables.ensures _ (s.1 crew0) (s.2 crew0) (planned-blank (s.1 crew0)) in
    record { laid = rw (c.of.ensures.0, c.of.ensures.1) (row_tables-most _ t.1 t.2) }

pub records-records-requires : goal.records-records-requires
records-records-requires c =
    let s = c.requires in
    rw c.of.ensures.0 (planned_recorded (c.lay_tables-tables.ensures _ (s.1 crew0) (s.2 crew0) (planned-blank (s.1 crew0))).0)

pub returns : goal.returns
unfolding ready_both
returns c q s g k e0 e1 =
    let t = c.of.ensures.0 in
    let r = c.records-records.ensures in
    let plan = λ (d : Crew). (c.lay_tables-tables.ensures _ (g d) (k d) (planned-blank (g d))).0 in
    let laid = λ (d : Crew). (c.lay_tables-tables.ensures _ (g d) (k d) (planned-blank (g d))).1 in
    let crew = λ (d : Crew). c.of.ensures.2 ∙ whole-crew (job_for q d) _ _ (planned_recorded (plan d)).some (plan d).groups_are in
    let waits0 = waits-of _ (g crew0).sized.accepted _ _ (plan crew0).groups_are (laid crew0) _ _ (rw (r.0, r.1, t) at c.find_blocked.ensures) (planned_recorded (plan crew0)) in
    let waits1 = waits-of _ (g crew1).sized.accepted _ _ (plan crew1).groups_are (laid crew1) _ _ (rw (r.0, r.1, t) at c.find_blocked-2.ensures) (planned_recorded (plan crew1)) in
    ap₂ (λ (a b : ReadySet). sets (record { of0 = a; of1 = b }))
    (ready-set q s crew0 _ ((rw t at c.crew_bits-bits0.ensures) q s crew0 _ (crew crew0) laid e0 e1 waits0))
    (ready-set q s crew1 _ ((rw t at c.crew_bits-bits1.ensures) q s crew1 _ (crew crew1) laid e1 e0 waits1))
