use native.Mathlib.Omega.{arith}
use Rattle.base.proofs.Stored.{copied_next}
use Rattle.search.proofs.region.queue_rows.Goals as goal

pub loop-i-preserved : goal.loop-i-preserved
loop-i-preserved c =
    let a = c.args in
    rw c.loop-i.invariant (copied_next a.own.now a.queue.now c.loop-i.i c.loop-i-test.true (omega (arith, c.requires)))
