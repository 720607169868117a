use mathlib.Core.Path.{◌≡◌}
use lib.ListN.{take}
use lib.Seq.{take_all}
use Rattle.shape.proofs.order.mark_rows.Goals as goal

pub returns : goal.returns
returns c =
    let e : take c.loop-v.v-index c.args.rows.now ≡ c.args.rows.now = take_all _ _ c.loop-v-test.false in
    rw e at c.loop-v.invariant
