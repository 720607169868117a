-- `put_amounts`: the amounts of the rows passed, then what is left of the old list.
use mathlib.Core.Path.{◌≡◌}
use lib.IntN.{pos}
use Rattle.base.proofs.Fill.{filled}
use Rattle.matrix.specs.Held.{held}
use Rattle.survey.specs.Survey.{amount}
use Rattle.survey.proofs.amounts.put_amounts.Given as goal

abbrev pub invariant-loop-i : goal.invariant-loop-i
invariant-loop-i l = l.out ≡ filled (λ i. pos (amount (held l.m) l.t i)) l.initial.out l.i
