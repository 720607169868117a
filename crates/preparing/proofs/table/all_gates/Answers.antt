use mathlib.Core.Path.{refl}
use Rattle.preparing.proofs.Columns.{columns-none, columns-next}
use Rattle.preparing.proofs.table.all_gates.Goals as goal

pub loop-v-init : goal.loop-v-init
loop-v-init c = let a = c.args in columns-none _ a.groups.now a.ends.now _ refl

pub put_column-requires : goal.put_column-requires
put_column-requires c = (c.loop-v-test.true, c.loop-v.invariant.long)

pub loop-v-preserved : goal.loop-v-preserved
loop-v-preserved c =
    let a = c.args in
    columns-next _ a.groups.now a.ends.now c.loop-v.v c.worker_gates-gates.result c.loop-v.table _ c.loop-v-test.true c.worker_gates-gates.ensures c.put_column.ensures c.loop-v.invariant
