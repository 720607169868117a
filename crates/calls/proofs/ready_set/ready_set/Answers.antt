-- `ready_set`: the rows of the updates, then one bit a worker.
use Rattle.machine.proofs.ReadyBits.{ready-bits}
use Rattle.machine.proofs.PlannedTables.{planned-blank, planned_recorded, whole-few}
use Rattle.steps.proofs.GivenTables.{row_tables-most}
use Rattle.calls.proofs.ready_set.ready_set.Goals as goal

pub lay_tables-tables-requires : goal.lay_tables-tables-requires
lay_tables-tables-requires c = let s = c.requires in (_, s.1, s.2, planned-blank s.1)

pub of-requires : goal.of-requires
of-requires c =
    let s = c.requires in
    let t = c.lay_tables-tables.ensures _ s.1 s.2 (planned-blank s.1) in
    (whole-few t.0, planned_recorded t.0, (row_tables-most _ t.1 t.2).bounded)

pub invariant_of-by_rows : goal.invariant_of-by_rows
invariant_of-by_rows c =
    let s = c.requires in
    let t = c.lay_tables-tables.ensures _ s.1 s.2 (planned-blank s.1) in
    record { laid = rw (c.of.ensures.0, c.of.ensures.1) (row_tables-most _ t.1 t.2) }

pub ready_workers-bits-requires : goal.ready_workers-bits-requires
ready_workers-bits-requires c =
    let s = c.requires in
    rw c.of.ensures.0 (c.of.ensures.2, planned_recorded (c.lay_tables-tables.ensures _ s.1 s.2 (planned-blank s.1)).0)

pub returns : goal.returns
returns c j zs g k =
    let t = c.lay_tables-tables.ensures j g k (planned-blank g) in
    ready-bits j _ _ ((rw c.of.ensures.0 at c.ready_workers-bits.ensures) j _ g.sized.accepted t.0.groups_are t.1)
