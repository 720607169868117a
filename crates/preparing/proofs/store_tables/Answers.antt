-- `store_tables`: the rows of the updates, the gates of the groups, then both are written.
use Prim.Native.Nat.{◌≤◌}
use native.Mathlib.Omega.{arith}
use lib.ListN.{get_or}
use Rattle.matrix.proofs.Matrix.{matrix_facts}
use Rattle.plan.specs.Sound.{max_workers}
use Rattle.layout.proofs.UpdateRoom.{first-room}
use Rattle.machine.proofs.PlannedTables.{planned-blank, planned_recorded}
use Rattle.preparing.specs.Code.Filled.{gate_numbers, update_numbers}
use Rattle.preparing.proofs.Lists.{legible, all-updates, all-gates}
use Rattle.preparing.proofs.Written.{tables_written}
use borrow.Author.Rules.{rules}
use Rattle.preparing.proofs.store_tables.Goals as goal
use Rattle.preparing.proofs.store_tables.Goals.{After-lay_tables-tables}

-- how many updates there are
few : (c : After-lay_tables-tables) → get_or c.args.first 16 0 ≤ 69632
few c = let s = c.requires in omega (arith, s.2.is max_workers (omega arith), first-room s.0 s.1.sized.accepted max_workers (omega arith))

pub lay_tables-tables-requires : goal.lay_tables-tables-requires
lay_tables-tables-requires c = let s = c.requires in (s.0, s.1, s.2, planned-blank s.1)

pub all_gates-table-requires : goal.all_gates-table-requires
all_gates-table-requires c = let s = c.requires in planned_recorded (c.lay_tables-tables.ensures s.0 s.1 s.2 (planned-blank s.1)).0

pub store_updates-requires : goal.store_updates-requires
store_updates-requires c =
    let s = c.requires in
    let t = c.lay_tables-tables.ensures s.0 s.1 s.2 (planned-blank s.1) in
    let e = s.2.is max_workers (omega arith) in
    (omega (arith, e, s.5), few (goal.at.store_updates-requires c).After-lay_tables-tables, (s.0.matrix.n, rw e (legible s.0 s.1.sized.accepted t.1 t.2 s.3)))

pub overflow_mul-count : goal.overflow_mul-count
overflow_mul-count c = let h = few (goal.at.overflow_mul-count c).After-lay_tables-tables in search rules

pub overflow_add-count : goal.overflow_add-count
overflow_add-count c = let h = few (goal.at.overflow_add-count c).After-lay_tables-tables in search rules

pub store_gates-requires : goal.store_gates-requires
store_gates-requires c =
    let s = c.requires in
    let t = c.lay_tables-tables.ensures s.0 s.1 s.2 (planned-blank s.1) in
    let long = c.store_updates.auto.out in
    (omega (arith, s.2.is max_workers (omega arith), s.5, long), omega (arith, s.4, (matrix_facts s.0.matrix s.1.sized.accepted.matrix).few), t.2.leaf_low)

pub returns : goal.returns
returns c =
    λ j g k t e.
    (let a = c.args in
    let r = c.lay_tables-tables.ensures j g k (planned-blank g) in
    let tables = c.lay_tables-tables.result in
    let q = k.is max_workers (omega arith) in
    tables_written j a.out.now _ _
    (λ n. update_numbers n tables.row.now tables.begins.now a.entries.now.parts.now a.displaced.now a.entries.now.at.now a.entries.now.beside.now) (λ n. gate_numbers n tables.leaves.now c.all_gates-table.result) a.n (get_or a.first 16 0)
    c.store_updates.ensures c.store_gates.ensures q e (all-updates j g.sized.accepted r.1 r.2 t)
    (all-gates j g.sized.accepted r.1 r.2 t _ tables.groups.now r.0.groups_are (planned_recorded r.0) c.all_gates-table.result c.all_gates-table.ensures))
