use native.Mathlib.Omega.{arith}
use Rattle.plan.specs.Groups.{group_of}
use Rattle.waits.specs.Code.Recorded.{size_of}
use Rattle.waits.proofs.PassTurns.{passed_none, passed-next}
use Rattle.waits.proofs.records.Records.pass_down.Goals as goal

pub loop-i-init : goal.loop-i-init
loop-i-init c = rw c.requires (passed_none c.args.self.now.groups.now c.args.reds.now)

pub loop-i-preserved : goal.loop-i-preserved
loop-i-preserved c =
    let a = c.args in
    let r = a.self.now in
    passed-next (size_of r) r.groups.now r.recorded c.loop-i.i (group_of c.get-g.result) c.get-g.ensures c.loop-i.auto.i (omega (arith, c.loop-i-test.true, c.count-i-end.ensures)) a.reds.now c.loop-i.blocks c.blocked_if.result c.blocked_if.ensures c.loop-i.invariant
