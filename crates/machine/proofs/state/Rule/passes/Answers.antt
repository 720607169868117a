-- `Rule::passes` meets its contract, case by case.
use mathlib.Core.Path.{◌≡◌, refl}
use mathlib.Core.Bool.{◌||◌}
use denote.Enum.Bare.{sameb}
use Rattle.base.specs.Verdicts.{number_of}
use Rattle.base.specs.contracts.Kind.{the_type}
use Rattle.base.specs.declared.Kind.{Kind}
use Rattle.base.specs.declared.Kind.TheVariants as kind
use Rattle.run.specs.Rounds.{skips}
use Rattle.machine.specs.Code.Stepped.{passes_over}
use Rattle.machine.proofs.state.Rule.passes.Goals as goal

-- the two kinds are the numbers that skip a pick
skipped : (k : Kind) → (sameb the_type k kind.AllDone || sameb the_type k kind.MustWait) ≡ skips (number_of k)
unfolding skips
skipped kind.BadHeader = refl
skipped kind.BadForm = refl
skipped kind.BadSize = refl
skipped kind.BadEntry = refl
skipped kind.NotMatrix = refl
skipped kind.BadDisplacement = refl
skipped kind.BadParameter = refl
skipped kind.Unsound = refl
skipped kind.TooShort = refl
skipped kind.NoWorker = refl
skipped kind.NotState = refl
skipped kind.AllDone = refl
skipped kind.MustWait = refl
skipped kind.Overflow = refl
skipped kind.TooEarly = refl
skipped kind.BadLayout = refl
skipped kind.BadSurvey = refl
skipped kind.NoCrew = refl
skipped kind.Elsewhere = refl
skipped kind.NotForces = refl
skipped kind.NoEntry = refl
skipped kind.BadChange = refl
skipped kind.BadPlaces = refl
skipped kind.PastLimits = refl
skipped kind.NoRegister = refl
skipped kind.NotPrepared = refl

pub returns-in-Stop : goal.returns-in-Stop
unfolding passes_over
returns-in-Stop c = rw c.in-Stop.is

pub returns-then-eq : goal.returns-then-eq
unfolding passes_over
returns-then-eq c = rw (c.in-Skip.is, ← skipped c.args.kind, ← c.eq.ensures, c.if-eq.true) refl

pub returns-else-eq : goal.returns-else-eq
unfolding passes_over
returns-else-eq c = rw (c.in-Skip.is, ← skipped c.args.kind, ← c.eq.ensures, c.if-eq.false) c.eq-else-eq.ensures
