use mathlib.Core.Path.{ap, ◌∙◌}
use Prim.Native.Nat.{◌+◌}
use native.Mathlib.Omega.{arith}
use lib.ListN.{get_or}
use lib.Seq.{take_all}
use Rattle.base.proofs.Lists.{in_get}
use Rattle.loads.specs.Code.Stretches.{key_load}
use Rattle.loads.proofs.Weights.{load_split, load-next}
use Rattle.loads.proofs.load.Goals as goal

pub weight-sum-requires : goal.weight-sum-requires
weight-sum-requires c = c.requires.each (get_or c.args.rows.now c.loop-v.v-index 0) (in_get c.args.rows.now c.loop-v.v-index (omega arith))

pub overflow_add-sum : goal.overflow_add-sum
overflow_add-sum c =
    let l = c.loop-v in
    let keys = c.args.keys.now in
    let rows = c.args.rows.now in
    omega (arith, l.invariant, c.weight-sum.ensures, load-next keys rows l.v-index (omega arith), load_split keys (l.v-index + 1) rows, c.requires.few)

pub loop-v-preserved : goal.loop-v-preserved
loop-v-preserved c =
    let l = c.loop-v in
    omega (arith, l.invariant, c.weight-sum.ensures, load-next c.args.keys.now c.args.rows.now l.v-index (omega arith))

pub returns : goal.returns
returns c = c.loop-v.invariant ∙ ap (key_load c.args.keys.now) (take_all c.loop-v.v-index c.args.rows.now (omega arith))
