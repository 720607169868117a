-- `put_shift`: the columns passed, then what is left of the old list.
use mathlib.Core.Path.{◌≡◌}
use Rattle.base.proofs.Fill.{filled}
use Rattle.matrix.specs.Matrix.{lookup}
use Rattle.survey.specs.Survey.{with_sign}
use Rattle.survey.specs.Code.Rows.{Passed}
use Rattle.survey.proofs.shift.put_shift.Given as goal

abbrev pub invariant-loop-j : goal.invariant-loop-j
invariant-loop-j l = Passed l.columns l.k l.j × (l.out ≡ filled (λ j. with_sign l.t (lookup j l.columns l.values)) l.initial.out l.j)
