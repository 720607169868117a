use native.Mathlib.Omega.{arith}
use Rattle.joined.proofs.Settled.{count-one, count_none}
use Rattle.joined.proofs.tenants.count_from.Goals as goal
use Rattle.joined.proofs.tenants.count_from.Goals.{then-n-p, else-n-p}

pub loop-p-preserved : goal.loop-p-preserved
loop-p-preserved c =
    let a = c.args in
    elim c.if-n-p.branch [
      | then-n-p w ↦ (omega arith, omega (arith, w.count-is, c.loop-p.invariant.1, count-one a.n a.list.now c.loop-p.p-index c.loop-p-test.true w.if-n-p.true))
      | else-n-p w ↦ (omega arith, omega (arith, w.count-is, c.loop-p.invariant.1, count_none a.n a.list.now c.loop-p.p-index c.loop-p-test.true w.if-n-p.false))
    ]
