-- Theorem prepared-runs: the calls on the list that prepare leaves for a job are the calls on the job.
use Rattle.std.specs.Prelude.{◌≡◌, true, List, [], ◌∷◌, ◌++◌, ℕ, ◌≤◌, ℤ, length}
use Rattle.base.specs.Refusals as why
use Rattle.base.specs.Replies.{Check, check, in_turn}
use Rattle.matrix.specs.Matrix.{Matrix}
use Rattle.run.specs.Job.{Job, Accepted, job_of}
use Rattle.run.specs.State.{State}
use Rattle.run.specs.Answers.{Call, Answer, denied}
use Rattle.run.specs.Calls.{answer, after, answer_lent, after_lent}
use Rattle.run.specs.LentRuns.{passed}
use Rattle.prepared.specs.Tables.{Tables, Of, answer_by, after_by}
use Rattle.prepared.specs.Format.{tables_of, lists_in, is_prepared, prepared_bytes}

-- ---- by tables

pub record TableRun (T : Tables) (j : Job) : Type 0 where
  -- every call, with any state, is answered as on the job
  pub answered : (s : State) (c : Call) → answer_by T s c ≡ answer j s c
  -- and leaves the state that it leaves there
  pub left : (s : State) (c : Call) → after_by T s c ≡ after j s c

-- the tables of an accepted job
pub record TableRuns : Type 0 where
  pub every : (T : Tables) (j : Job) → Accepted j → Of T j → TableRun T j

-- ---- by a list of bytes, any whatever: 26 comes before 11

unfoldable pub prepared_check : List ℕ → List Check
prepared_check b = check why.not_prepared (is_prepared b) ∷ []

unfoldable pub answer_prepared : List ℕ → State → Call → Answer
answer_prepared b s c = in_turn denied (prepared_check b) (answer_by (tables_of (lists_in b)) s c)

unfoldable pub after_prepared : List ℕ → State → Call → State
after_prepared b s c = in_turn (λ number place. s) (prepared_check b) (after_by (tables_of (lists_in b)) s c)

-- "at most 1,392,784" bytes
abbrev pub max_prepared : ℕ
max_prepared = 1392784

-- the list that prepare left for lent lists, whatever stands past it
pub record PreparedRun (m : Matrix) (x : List ℤ) (order groups : List ℕ) (count : ℕ) : Type 0 where
  -- no call refuses it with 26
  pub prepared : (rest : List ℕ) → is_prepared (prepared_bytes (job_of m x order groups count) ++ rest) ≡ true
  -- every call, with any state, is answered as on the lent lists, and leaves the state that it leaves there
  pub answered : (rest : List ℕ) (s : State) (c : Call) → answer_prepared (prepared_bytes (job_of m x order groups count) ++ rest) s c ≡ answer_lent m x order groups count s c
  pub left : (rest : List ℕ) (s : State) (c : Call) → after_prepared (prepared_bytes (job_of m x order groups count) ++ rest) s c ≡ after_lent m x order groups count s c
  pub short : length (prepared_bytes (job_of m x order groups count)) ≤ max_prepared

pub record PreparedRuns : Type 0 where
  pub every : (m : Matrix) (x : List ℤ) (order groups : List ℕ) (count : ℕ) → passed m x order groups count ≡ true → PreparedRun m x order groups count
