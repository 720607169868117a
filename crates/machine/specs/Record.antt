-- The record that a run's state is handed over as, beside the lent list of sums.
use Rattle.std.specs.Prelude.{List, ℤ}
use Rattle.run.specs.State as run
use Rattle.machine.specs.declared.state.State.{State}

-- the record and the sums as the machine's state
abbrev pub state_of : State → (sums : List ℤ) → run.State
state_of r sums = record { made = r.made; held = r.held; sums = sums }
