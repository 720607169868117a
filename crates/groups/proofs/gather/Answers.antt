use mathlib.Core.Path.{◌≡◌, sym, ap}
use native.Mathlib.Omega.{arith}
use lib.ListN.{length}
use Rattle.plan.specs.Code.Checks.{record_at}
use Rattle.groups.specs.Structs.{of_group}
use Rattle.groups.proofs.Gathering.{gathered_none, gathered_next, gathered-all}
use Rattle.groups.proofs.gather.Goals as goal

pub loop-k-init : goal.loop-k-init
loop-k-init c = sym (gathered_none c.args.numbers.now c.args.groups.now)

pub loop-k-preserved : goal.loop-k-preserved
loop-k-preserved c =
    let e : c.get.result ≡ of_group (record_at c.args.numbers.now c.loop-k.k) = ap of_group c.get.ensures in
    rw (c.loop-k.invariant, e) (gathered_next c.args.numbers.now c.args.groups.now c.loop-k.k c.get.result (omega arith))

pub returns : goal.returns
returns c =
    let e : c.loop-k.k ≡ length c.args.groups.now = omega arith in
    rw (c.loop-k.invariant, e) (gathered-all c.args.numbers.now c.args.groups.now)
