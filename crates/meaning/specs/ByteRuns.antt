-- A run whose state and sums stand in bytes from call to call, as a caller of the exported
-- functions keeps them: it is the run that every_run speaks of.
use Rattle.std.specs.Prelude.{◌≡◌, true, List, ℕ, ◌*◌, ◌/◌, ◌≤◌, ℤ, length, replicate}
use Rattle.matrix.specs.Matrix.{Matrix}
use Rattle.matrix.specs.Product.{product}
use Rattle.run.specs.Job.{job_of}
use Rattle.run.specs.State.{State}
use Rattle.run.specs.Calls.{after_lent}
use Rattle.run.specs.Answers.{Call, picks, ready_set, force_list, preview, rounds, Answer, shown}
use Rattle.run.specs.Sequence.{answers_from, state_after}
use Rattle.run.specs.EveryRun.{run_state, run_answers, finished_run}
use Rattle.run.specs.LentRuns.{passed}
use Rattle.words.specs.LittleEndian.{signed_bytes, stored}
use Rattle.answers.specs.Runs.{state_bytes, Bytes, state_in, answer_in, ForcesAnswered, bytes_in, left_by}

abbrev pub in_bytes : State → Bytes
in_bytes s = record { state = bytes_in s; sums = signed_bytes 8 s.sums }

-- "Fresh means all 0, the sums too": 192 bytes, and eight for each of n sums
unfoldable pub zeros : (n : ℕ) → Bytes
zeros n = record { state = replicate state_bytes 0; sums = replicate (8 * n) 0 }

-- the bytes after picks or rounds with this answer that leave this state, as Moved has them
unfoldable pub bytes_moved : Answer → State → Bytes → Bytes
bytes_moved a s b = record { state = left_by a (bytes_in s) b.state; sums = left_by a (signed_bytes 8 s.sums) b.sums }

-- .. after any call: the others write neither
unfoldable pub bytes_called : Call → Answer → State → Bytes → Bytes
bytes_called (picks ws) a s b = bytes_moved a s b
bytes_called (rounds ws) a s b = bytes_moved a s b
bytes_called ready_set a s b = b
bytes_called (force_list room) a s b = b
bytes_called (preview ws) a s b = b

-- the calls on lent lists
module _ (m : Matrix) (x : List ℤ) (order groups : List ℕ) (count : ℕ) where
  unfoldable pub byte_answer : Bytes → Call → Answer
  byte_answer b c = answer_in m x order groups count b.state b.sums c

  -- the state that a call leaves
  unfoldable pub state_left : Bytes → Call → State
  state_left b c = after_lent m x order groups count (state_in b.state b.sums) c

  unfoldable pub byte_after : Bytes → Call → Bytes
  byte_after b c = bytes_called c (byte_answer b c) (state_left b c) b

  -- "Each run begins fresh": the answers to a list of calls, and the bytes after it
  unfoldable pub byte_answers : List Call → List Answer
  byte_answers cs = answers_from byte_answer byte_after (zeros m.n) cs

  unfoldable pub run_bytes : List Call → Bytes
  run_bytes cs = state_after byte_after (zeros m.n) cs

pub record ByteRun (m : Matrix) (x : List ℤ) (order groups : List ℕ) (count : ℕ) (cs : List Call) : Type 0 where
  -- the answers are those of the run of the job in the lists
  pub answered : byte_answers m x order groups count cs ≡ run_answers (job_of m x order groups count) cs
  -- the bytes after the calls are those of its state
  pub left : run_bytes m x order groups count cs ≡ in_bytes (run_state (job_of m x order groups count) cs)
  -- and stand for that state: no number is lost in them
  pub read_back : state_in (run_bytes m x order groups count cs).state (run_bytes m x order groups count cs).sums ≡ run_state (job_of m x order groups count) cs
  -- a force-list call on them with room, once the run is finished, returns 0, and leaves the bytes
  -- of the full product in the lent list, and past them what stood there
  pub forced : finished_run (job_of m x order groups count) cs ≡ true → (old : List ℕ) (returned : ℕ) (new : List ℕ) → 8 * m.n ≤ length old
      → ForcesAnswered (byte_answer m x order groups count (run_bytes m x order groups count cs) (force_list (length old / 8))) old returned new
      → (returned ≡ 0) × (new ≡ stored (signed_bytes 8 (product m x)) old)

-- for all lent lists that pass their checks and every list of calls
pub record ByteRuns : Type 0 where
  pub every : (m : Matrix) (x : List ℤ) (order groups : List ℕ) (count : ℕ) → passed m x order groups count ≡ true → (cs : List Call) → ByteRun m x order groups count cs

-- Q-7, "It equals carrying out the same picks on a copy and looking there, refusals included", of calls in bytes: the
-- answer is that of the picks on a copy of the bytes, with the ready set that a call tells of what they leave there.
-- Whatever the lists and the bytes
pub record BytePreviews : Type 0 where
  pub on_copy : (m : Matrix) (x : List ℤ) (order groups : List ℕ) (count : ℕ) (b : Bytes) (ws : List ℕ)
      → byte_answer m x order groups count b (preview ws)
      ≡ shown (byte_answer m x order groups count b (picks ws)) (byte_answer m x order groups count (byte_after m x order groups count b (picks ws)) ready_set)
