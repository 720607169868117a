use mathlib.Core.Path.{refl}
use lib.ListN.{replicate}
use Rattle.preparing.proofs.Heads.{head_none, head_next}
use Rattle.preparing.proofs.rows.head_numbers.Goals as goal

pub loop-w-init : goal.loop-w-init
loop-w-init c = let a = c.args in head_none a.n a.workers a.first.now (replicate 36 0) refl

pub loop-w-preserved : goal.loop-w-preserved
loop-w-preserved c =
    let a = c.args in
    head_next a.n a.workers a.first.now c.loop-w.w c.accesses.result c.loop-w.head c.loop-w-test.true c.accesses.ensures c.loop-w.invariant
