-- Two runs whose states and sums stand in bytes from call to call, as a caller of the exported functions keeps them:
-- they are the runs that request 9 speaks of.
use Rattle.std.specs.Prelude.{◌≡◌, true, List, ℕ, ℤ}
use Rattle.matrix.specs.Matrix.{Matrix}
use Rattle.run.specs.State.{State}
use Rattle.run.specs.Sequence.{answers_from, state_after}
use Rattle.answers.specs.Runs.{Bytes}
use Rattle.crews.specs.Crews.{Two}
use Rattle.crews.specs.Calls.{BothCall, picks_both, ready_sets, forces_for, BothAnswer, roof_of, after_both_lent}
use Rattle.crews.specs.TwoCrews.{both_state, both_answers, passed_both}
use Rattle.quarters.specs.Both.{states_in, answer_both_in, bytes_left}
use Rattle.meaning.specs.ByteRuns.{in_bytes, zeros}

abbrev pub both_in_bytes : Two State → Two Bytes
both_in_bytes s = record { of0 = in_bytes s.of0; of1 = in_bytes s.of1 }

-- "If both begin fresh": all 0
unfoldable pub both_zeros : (n : ℕ) → Two Bytes
both_zeros n = record { of0 = zeros n; of1 = zeros n }

-- the calls on lent lists
module _ (m : Matrix) (x : Two (List ℤ)) (order groups : List ℕ) (count : ℕ) where
  -- the states that a call of picks leaves
  unfoldable pub both_leave : Two Bytes → (schedule : List ℕ) → Two State
  both_leave b bs = after_both_lent m x order groups count (states_in b) (picks_both bs)

  -- the bytes after a call: of picks as PicksBothAnswered has them; the others write none
  unfoldable pub bytes_after : Two Bytes → BothCall → Two Bytes
  bytes_after b (picks_both bs) = record {
    of0 = bytes_left (answer_both_in m x order groups count b (picks_both bs)) (both_leave b bs).of0 b.of0;
    of1 = bytes_left (answer_both_in m x order groups count b (picks_both bs)) (both_leave b bs).of1 b.of1;
  }
  bytes_after b ready_sets = b
  bytes_after b (forces_for c room) = b

  -- the answers to a list of calls, and the bytes after it
  unfoldable pub both_byte_answers : List BothCall → List BothAnswer
  both_byte_answers cs = answers_from (answer_both_in m x order groups count) bytes_after (both_zeros m.n) cs

  unfoldable pub both_bytes : List BothCall → Two Bytes
  both_bytes cs = state_after bytes_after (both_zeros m.n) cs

pub record BothInBytes (m : Matrix) (x : Two (List ℤ)) (order groups : List ℕ) (count : ℕ) (cs : List BothCall) : Type 0 where
  -- the answers are those of the two runs on the roof in the lists
  pub answered : both_byte_answers m x order groups count cs ≡ both_answers (roof_of m x order groups count) cs
  -- the bytes after the calls are those of both states
  pub left : both_bytes m x order groups count cs ≡ both_in_bytes (both_state (roof_of m x order groups count) cs)
  -- and stand for them: no number is lost
  pub read_back : states_in (both_bytes m x order groups count cs) ≡ both_state (roof_of m x order groups count) cs

-- for all lent lists that pass their checks and every list of calls
pub record BothByteRuns : Type 0 where
  pub every : (m : Matrix) (x : Two (List ℤ)) (order groups : List ℕ) (count : ℕ) → passed_both m x order groups count ≡ true → (cs : List BothCall) → BothInBytes m x order groups count cs
