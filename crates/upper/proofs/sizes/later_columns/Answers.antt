use native.Mathlib.Omega.{arith}
use lib.ListN.{get_or}
use lib.Dec.{ltb}
use Rattle.upper.proofs.SizeRows.{later-next, later-few, byte_le}
use Rattle.upper.proofs.sizes.later_columns.Goals as goal

pub overflow_add-later : goal.overflow_add-later
overflow_add-later c =
    let a = c.args in
    let k = c.loop-column.column-index in
    omega (arith, c.loop-column.invariant, later-few a.position.now a.p a.columns.now k, byte_le (ltb a.p (get_or a.position.now (get_or a.columns.now k 0) 0)), c.well_formed)

pub loop-column-preserved : goal.loop-column-preserved
loop-column-preserved c =
    let a = c.args in
    rw c.loop-column.invariant (later-next a.position.now a.p a.columns.now c.loop-column.column-index (omega arith))
