use Rattle.apart.proofs.Widening.{widening_start, widening_stops, widening_next, widening_end}
use Rattle.apart.proofs.reach.touch_each.Goals as goal

pub loop-u-init : goal.loop-u-init
loop-u-init g c = widening_start c.requires.0

pub touch-requires : goal.touch-requires
touch-requires g c = (c.loop-u.invariant.opened, c.requires.1 c.loop-u.u-index c.loop-u-test.true)

pub returns-then-not-touch : goal.returns-then-not-touch
returns-then-not-touch g c = widening_stops c.loop-u.invariant c.loop-u-test.true c.touch.ensures c.if-not-touch.true

pub loop-u-preserved : goal.loop-u-preserved
loop-u-preserved g c = widening_next c.loop-u.invariant c.loop-u-test.true c.touch.ensures c.if-not-touch.false

pub returns : goal.returns
returns g c = widening_end c.loop-u.invariant c.loop-u-test.false
