-- `State::is_fine`: the workers below w are fine.
use mathlib.Core.Path.{◌≡◌}
use mathlib.Core.Bool.{true}
use Rattle.machine.specs.Code.Tests.{all_below, fine}
use Rattle.machine.proofs.state.State.is_fine.Given as goal

abbrev pub invariant-loop-w : goal.invariant-loop-w
invariant-loop-w l = all_below (fine l.first l.self.made) l.w ≡ true
