-- The first i places hold their numbers.
use mathlib.Core.Path.{◌≡◌}
use Rattle.base.proofs.Fill.{filled}
use Rattle.planner.proofs.whole.number.Given as goal

abbrev pub invariant-loop-i : goal.invariant-loop-i
invariant-loop-i l = l.order ≡ filled (λ j. j) l.initial.order l.i
