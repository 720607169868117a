-- `touch_near`: no join, one, or two.
use mathlib.Core.Path.{◌≡◌}
use native.Mathlib.Omega.{arith}
use Rattle.matrix.specs.Held.{held}
use Rattle.apart.specs.Code.Marks.{around}
use Rattle.apart.proofs.Touching.{widened-kept, around-two}
use Rattle.apart.proofs.touch_near.Goals as goal

pub touch_all-requires : goal.touch_all-requires
touch_all-requires c = λ i l. omega (arith, c.requires.1 i l, c.args.net.now.graph.few)

pub returns-in-0 : goal.returns-in-0
unfolding around
returns-in-0 c = rw c.in-0.is (widened-kept c.requires.0 c.touch_all.ensures)

pub returns-in-1 : goal.returns-in-1
unfolding around
returns-in-1 c = rw c.in-1.is c.touch_each.ensures

pub returns-in_default : goal.returns-in_default
returns-in_default c =
    let e : c.args.j ≡ 2 = omega (arith, c.requires.2) in
    let all = around-two (held c.args.net.now.m) c.args.rows.now in
    rw (e, ← all) c.touch_each-in_default.ensures
