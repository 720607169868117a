use mathlib.Core.Path.{ap, ◌∙◌}
use Prim.Native.Nat.{◌+◌}
use native.Mathlib.Omega.{arith}
use lib.Seq.{take_all}
use Rattle.base.specs.Lists.{sum}
use Rattle.extents.proofs.Ends.{sum-next, sum-split}
use Rattle.extents.proofs.total.Goals as goal

pub overflow_add-sum : goal.overflow_add-sum
overflow_add-sum c =
    let l = c.loop-q in
    omega (arith, sum-next c.args.loads.now l.q-index (omega arith), sum-split (l.q-index + 1) c.args.loads.now)

pub loop-q-preserved : goal.loop-q-preserved
loop-q-preserved c = omega (arith, sum-next c.args.loads.now c.loop-q.q-index (omega arith))

pub returns : goal.returns
returns c = c.loop-q.invariant ∙ ap sum (take_all c.loop-q.q-index c.args.loads.now (omega arith))
