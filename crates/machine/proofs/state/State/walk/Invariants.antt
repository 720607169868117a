-- `machine::state::State::walk` meets its contract: k picks are gone through.
use mathlib.Core.Path.{◌≡◌}
use Prim.Native.Nat.{◌-◌, ◌≤◌}
use lib.ListN.{length}
use Rattle.steps.specs.Code.Steps.{state_with}
use Rattle.machine.proofs.RunTurns.{Running}
use Rattle.machine.proofs.state.State.walk.Given as goal

abbrev pub invariant-loop-k : goal.invariant-loop-k
invariant-loop-k l =
    (l.k ≤ length l.schedule) × (l.taken ≤ l.k) × (length l.sums ≡ length l.initial.sums)
    × Running l.work l.rule (state_with l.initial.made l.initial.held l.initial.sums) l.schedule l.taken l.k (state_with l.made l.held l.sums)
    l.blocked.blocks l.blocked.stops l.hands.targets l.hands.adds

abbrev pub decreases-loop-k : goal.decreases-loop-k
decreases-loop-k l = length l.schedule - l.k
