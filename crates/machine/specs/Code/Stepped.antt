-- What the code answers to a schedule and to a pick, as the machine's.
use Rattle.std.specs.Prelude.{Bool, false, Option, Some, None, List, ℕ, ℤ}
use Rattle.base.specs.Verdicts.{number_of}
use Rattle.base.specs.declared.Kind.{Kind}
use Rattle.run.specs.Job.{Job}
use Rattle.run.specs.Machine as machine
use Rattle.run.specs.Schedule.{Passed, pass}
use Rattle.run.specs.Rounds.{skips}
use Rattle.run.specs.State as run
use Rattle.machine.specs.Record.{state_of}
use Rattle.machine.specs.declared.state.Rule.{Rule}
use Rattle.machine.specs.declared.state.Rule.TheVariants.{Stop, Skip}
use Rattle.machine.specs.declared.state.Walked as code

-- ---- a schedule under a rule

-- a pick that is refused with this number is passed over
unfoldable pub passes_over : Rule → ℕ → Bool
passes_over Stop k = false
passes_over Skip k = skips k

-- `walk Stop` is the machine's `steps`, `walk Skip` its `round` (proofs/UnderRules.antt)
abbrev pub walk : Rule → Job → run.State → (schedule : List ℕ) → Passed run.State
walk rule j s ws = pass (passes_over rule) (machine.step j) s ws

-- ---- the code's records

-- the number of what ended a schedule: 0 if no pick did
abbrev pub stop_number : Option Kind → ℕ
stop_number None = 0
stop_number (Some k) = number_of k

-- the record that the code makes, beside the lent sums
abbrev pub walked_of : code.Walked → (sums : List ℤ) → Passed run.State
walked_of r sums = record { state = state_of r.state sums; taken = r.taken; met = r.past; number = stop_number r.stop }
