use native.Mathlib.Omega.{arith}
use Rattle.plan.specs.Groups.{group_of}
use Rattle.waits.specs.Code.Recorded.{size_of}
use Rattle.waits.proofs.PassTurns.{backward_none, backward_next, backward_all}
use Rattle.waits.proofs.records.Records.open_reds.Goals as goal

pub loop-i-init : goal.loop-i-init
loop-i-init c =
    let r = c.args.self.now in
    rw (c.requires, c.count-i.ensures) (r.recorded.some, backward_none (size_of r) r.groups.now r.ends.now c.args.made.now)

pub loop-i-preserved : goal.loop-i-preserved
loop-i-preserved c =
    let o = c.open_if-opened in
    let r = c.args.self.now in (
      omega (arith, c.loop-i-test.true),
      backward_next (size_of r) r.groups.now r.ends.now c.args.made.now r.recorded c.loop-i.i c.loop-i-test.true (omega (arith, c.loop-i.auto.i, c.count-i.ensures, r.recorded.some)) (group_of c.get-g.result) c.get-g.ensures
          c.loop-i.parents c.loop-i.opens c.loop-i.reds o.result c.open_red.result o.ensures c.open_red.ensures c.loop-i.invariant.1,
    )

pub returns : goal.returns
returns c =
    let r = c.args.self.now in
    backward_all (size_of r) r.groups.now r.ends.now c.args.made.now c.loop-i.i (omega (arith, c.loop-i.invariant.0, c.loop-i-test.false)) c.loop-i.parents c.loop-i.opens c.loop-i.reds c.loop-i.invariant.1
