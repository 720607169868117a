-- What follows of every run that begins fresh (EveryRun.antt).
use Rattle.std.specs.Prelude.{◌≡◌, true, List, [], ◌∷◌, map, ℕ, ◌≤◌}
use Rattle.base.specs.Lists.{all, is_in}
use Rattle.base.specs.Refusals as why
use Rattle.run.specs.Job.{Job, Accepted}
use Rattle.run.specs.Calls.{answer}
use Rattle.run.specs.Answers.{Call, ready_set, Answer, picked, is_ready, forces, denied, previewed}
use Rattle.run.specs.EveryRun.{taken_in, run_state, run_answers, finished_run, whole_run}

-- the number of an answer: 0, or why the call was refused or ended
unfoldable pub number_of : Answer → ℕ
number_of (picked taken number place) = number
number_of (is_ready bits count) = 0
number_of (forces zs) = 0
number_of (denied number place) = number
number_of (previewed taken number place bits count) = number

pub record Consequence (j : Job) (cs : List Call) : Type 0 where
  -- the only numbers met: not 11, and not 14, "never met from a fresh state"
  pub numbers : all (is_in (0 ∷ why.too_short ∷ why.no_worker ∷ why.all_done ∷ why.must_wait ∷ why.too_early ∷ [])) (map number_of (run_answers j cs)) ≡ true
  -- no run takes more steps than a whole run has
  pub at_most : taken_in (run_answers j cs) ≤ whole_run j
  -- the ready set "is empty only in a finished run", and in every finished run
  pub empty_finished : answer j (run_state j cs) ready_set ≡ is_ready 0 0 → finished_run j cs ≡ true
  pub finished_empty : finished_run j cs ≡ true → answer j (run_state j cs) ready_set ≡ is_ready 0 0

pub record Consequences : Type 0 where
  pub every : (j : Job) → Accepted j → (cs : List Call) → Consequence j cs
