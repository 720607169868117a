-- In which order a step is refused by the counts.
use Rattle.std.specs.Prelude.{◌≡◌, true, false, List, ℕ, ◌≤◌, ◌<◌}
use Rattle.base.specs.Refusals as why
use Rattle.run.specs.Job.{Job, workers}
use Rattle.run.specs.Updates.{count, accesses, waits}
use Rattle.run.specs.Machine.{refusal}

-- "pick by pick 10, 12, 13"
pub record StepInOrder (j : Job) (made : List ℕ) (w : ℕ) : Type 0 where
  pub stranger : workers j ≤ w → refusal j made w ≡ why.no_worker
  pub done : w < workers j → accesses j w ≤ count made w → refusal j made w ≡ why.all_done
  pub waiting : w < workers j → count made w < accesses j w → waits j made w ≡ true → refusal j made w ≡ why.must_wait
  pub taken : w < workers j → count made w < accesses j w → waits j made w ≡ false → refusal j made w ≡ 0

-- .. whatever the job, the counts and the pick
pub record InOrder : Type 0 where
  pub every : (j : Job) (made : List ℕ) (w : ℕ) → StepInOrder j made w
