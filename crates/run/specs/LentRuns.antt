-- The calls on lent lists that pass their checks are the calls on the job in them: what every_run says of the one, it
-- says of the other.
use Rattle.std.specs.Prelude.{◌≡◌, Bool, true, List, ℕ, ℤ}
use Rattle.base.specs.Lists.{all}
use Rattle.matrix.specs.Matrix.{Matrix}
use Rattle.run.specs.Job.{job_of, Accepted}
use Rattle.run.specs.State.{State, fresh}
use Rattle.run.specs.Calls.{answer, after, job_checks, answer_lent, after_lent}
use Rattle.run.specs.Answers.{Call}
use Rattle.run.specs.Sequence.{answers_from, state_after}
use Rattle.run.specs.EveryRun.{run_state, run_answers}

-- the lists pass the three checks: no call refuses them with 5, 6 or 8
unfoldable pub passed : Matrix → List ℤ → (order groups : List ℕ) (count : ℕ) → Bool
passed m x order groups count = all (λ c. c.holds) (job_checks m x order groups count)

pub record LentRun (m : Matrix) (x : List ℤ) (order groups : List ℕ) (count : ℕ) : Type 0 where
  -- the job in the lists is "such as document 01 takes"
  pub accepted : Accepted (job_of m x order groups count)
  -- every call, with any state, is answered as on that job
  pub answered : (s : State) (c : Call) → answer_lent m x order groups count s c ≡ answer (job_of m x order groups count) s c
  -- and leaves the state that it leaves there
  pub left : (s : State) (c : Call) → after_lent m x order groups count s c ≡ after (job_of m x order groups count) s c
  -- so a list of calls on the lent lists, begun fresh, is the run that every_run speaks of
  pub all_answered : (cs : List Call) → answers_from (answer_lent m x order groups count) (after_lent m x order groups count) (fresh m.n) cs ≡ run_answers (job_of m x order groups count) cs
  pub all_left : (cs : List Call) → state_after (after_lent m x order groups count) (fresh m.n) cs ≡ run_state (job_of m x order groups count) cs

pub record LentRuns : Type 0 where
  pub every : (m : Matrix) (x : List ℤ) (order groups : List ℕ) (count : ℕ) → passed m x order groups count ≡ true → LentRun m x order groups count
