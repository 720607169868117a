use Rattle.preparing.proofs.Columns.{column-none, column-next}
use Rattle.preparing.proofs.table.put_column.Goals as goal

pub loop-i-init : goal.loop-i-init
loop-i-init c = let a = c.args in column-none a.v a.gates.now a.table.now c.requires.1

pub loop-i-preserved : goal.loop-i-preserved
loop-i-preserved c =
    let a = c.args in
    column-next a.v c.loop-i.i a.gates.now a.table.now c.loop-i.table c.requires.0 c.loop-i-test.true c.loop-i.invariant
