-- `reach::touch_each`: after each turn the rows so far have touched theirs.
use Rattle.matrix.specs.Held.{held}
use Rattle.apart.proofs.Widening.{Widening}
use Rattle.apart.proofs.reach.touch_each.Given as goal

abbrev pub invariant-loop-u : goal.invariant-loop-u
invariant-loop-u g l = Widening (held l.net.m) l.pen.low l.pen.mine (g.R.Reach.reached (held l.net.m)) l.rows l.initial.marks l.marks l.u-index
