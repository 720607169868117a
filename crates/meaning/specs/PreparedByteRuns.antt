-- A run by a prepared list whose state and sums stand in bytes from call to call: it is the run by the lent lists, so
-- that byte-runs, and with it every_run, speak of it.
use Rattle.std.specs.Prelude.{◌≡◌, true, List, ◌++◌, ℕ, ◌*◌, ◌/◌, ◌≤◌, ℤ, length}
use Rattle.matrix.specs.Matrix.{Matrix}
use Rattle.matrix.specs.Product.{product}
use Rattle.run.specs.Job.{job_of}
use Rattle.run.specs.Answers.{Call, force_list, Answer}
use Rattle.run.specs.Sequence.{answers_from, state_after}
use Rattle.run.specs.EveryRun.{finished_run}
use Rattle.run.specs.LentRuns.{passed}
use Rattle.words.specs.LittleEndian.{signed_bytes, stored}
use Rattle.answers.specs.Runs.{Bytes, state_in, ForcesAnswered}
use Rattle.prepared.specs.Format.{prepared_bytes}
use Rattle.prepared.specs.PreparedRuns.{after_prepared}
use Rattle.rack.specs.Kept.{answer_kept}
use Rattle.meaning.specs.ByteRuns.{zeros, bytes_called, byte_answers, run_bytes}

-- the calls on a list
module _ (list : List ℕ) where
  unfoldable pub kept_answer : Bytes → Call → Answer
  kept_answer b c = answer_kept list b.state b.sums c

  unfoldable pub kept_after : Bytes → Call → Bytes
  kept_after b c = bytes_called c (kept_answer b c) (after_prepared list (state_in b.state b.sums) c) b

  -- begun fresh with n sums: the answers to a list of calls, and the bytes after it
  unfoldable pub kept_answers : (n : ℕ) → List Call → List Answer
  kept_answers n cs = answers_from kept_answer kept_after (zeros n) cs

  unfoldable pub kept_bytes : (n : ℕ) → List Call → Bytes
  kept_bytes n cs = state_after kept_after (zeros n) cs

-- the list that prepare left for lent lists, whatever stands past it
pub record PreparedByteRun (m : Matrix) (x : List ℤ) (order groups : List ℕ) (count : ℕ) (rest : List ℕ) (cs : List Call) : Type 0 where
  -- the answers are those of the lent lists
  pub answered : kept_answers (prepared_bytes (job_of m x order groups count) ++ rest) m.n cs ≡ byte_answers m x order groups count cs
  -- so are the bytes after the calls
  pub left : kept_bytes (prepared_bytes (job_of m x order groups count) ++ rest) m.n cs ≡ run_bytes m x order groups count cs
  -- a force-list call on them with room, once the run is finished, returns 0, and leaves the bytes
  -- of the full product in the lent list, and past them what stood there
  pub forced : finished_run (job_of m x order groups count) cs ≡ true → (old : List ℕ) (returned : ℕ) (new : List ℕ) → 8 * m.n ≤ length old
      → ForcesAnswered (kept_answer (prepared_bytes (job_of m x order groups count) ++ rest) (kept_bytes (prepared_bytes (job_of m x order groups count) ++ rest) m.n cs) (force_list (length old / 8))) old returned new
      → (returned ≡ 0) × (new ≡ stored (signed_bytes 8 (product m x)) old)

-- for all lent lists that pass their checks and every list of calls
pub record PreparedByteRuns : Type 0 where
  pub every : (m : Matrix) (x : List ℤ) (order groups : List ℕ) (count : ℕ) → passed m x order groups count ≡ true
      → (rest : List ℕ) (cs : List Call) → PreparedByteRun m x order groups count rest cs
