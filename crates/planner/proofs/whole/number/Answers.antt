use mathlib.Core.Path.{◌≡◌, refl, ap, ◌∙◌}
use native.Mathlib.Omega.{arith}
use lib.ListN.{length}
use Rattle.base.proofs.Fill.{filled, filled_next}
use Rattle.planner.proofs.WholePlan.{numbered}
use Rattle.planner.proofs.whole.number.Goals as goal

pub loop-i-init : goal.loop-i-init
loop-i-init c = refl

pub loop-i-preserved : goal.loop-i-preserved
loop-i-preserved c = rw c.loop-i.invariant (filled_next (λ j. j) c.args.order.now 0 c.loop-i.i (omega arith))

pub returns : goal.returns
returns c =
    let l = c.loop-i in
    let all : l.i ≡ length c.args.order.now = omega arith in
    l.invariant ∙ ap (filled (λ j. j) c.args.order.now) all ∙ numbered c.args.order.now
