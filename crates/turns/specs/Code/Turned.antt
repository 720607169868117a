-- What the code makes of a schedule for both, and of a pick's byte.
use Rattle.std.specs.Prelude.{cond, List, ℕ, ◌*◌, ◌%◌, leb, ℤ}
use Rattle.base.specs.Refusals as why
use Rattle.plan.specs.Sound.{max_workers}
use Rattle.run.specs.State as run
use Rattle.run.specs.Schedule.{Passed}
use Rattle.machine.specs.Code.Stepped.{stop_number}
use Rattle.crews.specs.Crews.{Two}
use Rattle.turns.specs.Records.{states_of}
use Rattle.turns.specs.declared.Turned as code

-- a byte that names no crew, or no worker of the plan; 0: it names both
abbrev pub misnamed : (byte workers : ℕ) → ℕ
misnamed byte workers = cond (leb (2 * max_workers) byte) why.no_crew (cond (leb workers (byte % max_workers)) why.no_worker 0)

-- the record that the code makes of a schedule, beside the lent sums
abbrev pub turned_of : code.Turned → (sums0 sums1 : List ℤ) → Passed (Two run.State)
turned_of r sums0 sums1 = record { state = states_of r.crews sums0 sums1; taken = r.taken; met = r.taken; number = stop_number r.stop }
