-- Theorem kept-runs: in bytes too the calls on the list that prepare leaves for a job are the calls on the job.
use Rattle.std.specs.Prelude.{◌≡◌, true, List, ◌++◌, ℕ, ℤ}
use Rattle.matrix.specs.Matrix.{Matrix}
use Rattle.run.specs.Answers.{Call, picks, rounds}
use Rattle.run.specs.Calls.{after_lent}
use Rattle.run.specs.Job.{job_of}
use Rattle.run.specs.LentRuns.{passed}
use Rattle.answers.specs.Runs.{state_in, answer_in, LentPicks, LentRounds}
use Rattle.prepared.specs.Format.{prepared_bytes}
use Rattle.prepared.specs.PreparedRuns.{after_prepared}
use Rattle.rack.specs.Kept.{answer_kept, KeptPicks, KeptRounds}

-- of any bytes of a state and of sums, and whatever stands past the list
pub record KeptRun (m : Matrix) (x : List ℤ) (order groups : List ℕ) (count : ℕ) (rest : List ℕ) : Type 0 where
  pub answered : (state sums : List ℕ) (c : Call) → answer_kept (prepared_bytes (job_of m x order groups count) ++ rest) state sums c ≡ answer_in m x order groups count state sums c
  pub left : (state sums : List ℕ) (c : Call) → after_prepared (prepared_bytes (job_of m x order groups count) ++ rest) (state_in state sums) c ≡ after_lent m x order groups count (state_in state sums) c
  -- picks and rounds return the word that they return on the job, and leave the bytes that they leave there
  pub picked : (state sums ws : List ℕ) (returned : ℕ) (new_state new_sums : List ℕ) → KeptPicks (prepared_bytes (job_of m x order groups count) ++ rest) state sums (picks ws) returned new_state new_sums
      → LentPicks m x order groups count state sums (picks ws) returned new_state new_sums
  pub rounded : (state sums ws : List ℕ) (returned : ℕ) (new_state new_sums : List ℕ) → KeptRounds (prepared_bytes (job_of m x order groups count) ++ rest) state sums (rounds ws) returned new_state new_sums
      → LentRounds m x order groups count state sums (rounds ws) returned new_state new_sums

pub record KeptRuns : Type 0 where
  pub every : (m : Matrix) (x : List ℤ) (order groups : List ℕ) (count : ℕ) → passed m x order groups count ≡ true → (rest : List ℕ) → KeptRun m x order groups count rest
