-- `State::is_finished`: the workers below w are done.
use mathlib.Core.Path.{◌≡◌}
use mathlib.Core.Bool.{true}
use Rattle.machine.specs.Code.Tests.{all_below, done}
use Rattle.machine.proofs.state.State.is_finished.Given as goal

abbrev pub invariant-loop-w : goal.invariant-loop-w
invariant-loop-w l = all_below (done l.first l.self.made) l.w ≡ true
