-- The calls for two crews whose states and sums stand in bytes: what they answer, and what they return and leave of it.
use Rattle.std.specs.Prelude.{◌≡◌, Bool, cond, ◌&&◌, List, ℕ, ◌+◌, ◌*◌, ◌^◌, eqb, ℤ, length}
use Rattle.base.specs.Refusals as why
use Rattle.base.specs.Replies.{Reply, accepted, in_turn}
use Rattle.matrix.specs.Matrix.{Matrix}
use Rattle.run.specs.State.{State}
use Rattle.run.specs.Answers.{force_list}
use Rattle.words.specs.LittleEndian.{signed_bytes}
use Rattle.lent.specs.Word.{word}
use Rattle.answers.specs.Runs.{state_bytes, Bytes, state_in, answer_in, reply_to, bytes_in, left_by}
use Rattle.crews.specs.Crews.{Two, own_of}
use Rattle.crews.specs.Calls.{BothCall, picks_both, ready_sets, forces_for, BothAnswer, one, sets, denied_both, roof_checks, answer_both_lent}

-- the states that the bytes of both stand for
abbrev pub states_in : Two Bytes → Two State
states_in b = record { of0 = state_in b.of0.state b.of0.sums; of1 = state_in b.of1.state b.of1.sums }

-- both are of a state's length
unfoldable pub are_whole : Two Bytes → Bool
are_whole b = eqb (length b.of0.state) state_bytes && eqb (length b.of1.state) state_bytes

module _ (m : Matrix) (x : Two (List ℤ)) (order groups : List ℕ) (count : ℕ) (b : Two Bytes) where
  -- 5; 6 of crew 0, of crew 1; 8 come before 11, which a state of another length is refused with, too
  unfoldable pub if_whole : BothCall → BothAnswer
  if_whole c = cond (are_whole b) (answer_both_lent m x order groups count (states_in b) c) (in_turn denied_both (roof_checks m x order groups count) (denied_both why.not_state 0))

  -- a call's answer; a crew's own force-list call is that of its run
  unfoldable pub answer_both_in : BothCall → BothAnswer
  answer_both_in (picks_both bs) = if_whole (picks_both bs)
  answer_both_in ready_sets = if_whole ready_sets
  answer_both_in (forces_for c room) = one (answer_in m (own_of x c) order groups count (own_of b c).state (own_of b c).sums (force_list room))

-- the reply that a call's word says: of both ready sets, crew 0's sixteen bits, crew 1's in the next sixteen, and the
-- counts of those set from bit 40 and from bit 48 on
unfoldable pub reply_to_both : BothAnswer → Reply
reply_to_both (one a) = reply_to a
reply_to_both (sets t) = accepted (t.of0.bits + t.of1.bits * 65536 + t.of0.count * 2 ^ 40 + t.of1.count * 2 ^ 48)

-- a crew's bytes after a call of picks with this answer, that leaves it this state
unfoldable pub bytes_left : BothAnswer → State → Bytes → Bytes
bytes_left (one a) s b = record { state = left_by a (bytes_in s) b.state; sums = left_by a (signed_bytes 8 s.sums) b.sums }
bytes_left (sets t) s b = b

-- a call of picks for both with this answer that leaves these states: the returned word, and the lent lists after it
pub record PicksBothAnswered (a : BothAnswer) (s : Two State) (old : Two Bytes) (returned : ℕ) (new : Two Bytes) : Type 0 where
  pub returns : returned ≡ word (reply_to_both a)
  pub left0 : new.of0 ≡ bytes_left a s.of0 old.of0
  pub left1 : new.of1 ≡ bytes_left a s.of1 old.of1
