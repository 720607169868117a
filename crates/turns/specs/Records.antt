-- The record that two crews' states are handed over as, beside the lent lists of sums.
use Rattle.std.specs.Prelude.{List, ℤ}
use Rattle.run.specs.State as run
use Rattle.machine.specs.Record.{state_of}
use Rattle.crews.specs.Crews.{Two}
use Rattle.turns.specs.declared.Crews.{Crews}

-- the record and the sums as the states of both
abbrev pub states_of : Crews → (sums0 sums1 : List ℤ) → Two run.State
states_of r sums0 sums1 = record { of0 = state_of r.of0 sums0; of1 = state_of r.of1 sums1 }
