-- The calls on a run whose state and sums stand in bytes: what they answer, and what they return of it.
use Rattle.std.specs.Prelude.{◌≡◌, cond, List, [], ◌++◌, ℕ, zero, suc, ◌+◌, ◌*◌, ◌%◌, ◌^◌, eqb, ℤ, length, take, drop}
use Rattle.base.specs.Refusals as why
use Rattle.base.specs.Replies as replies
use Rattle.base.specs.Replies.{Reply, in_turn}
use Rattle.matrix.specs.Matrix.{Matrix}
use Rattle.plan.specs.Sound.{max_workers}
use Rattle.run.specs.State.{State}
use Rattle.run.specs.Calls.{job_checks, answer_lent, after_lent}
use Rattle.run.specs.Answers.{Call, Answer, picked, is_ready, forces, denied, previewed}
use Rattle.words.specs.LittleEndian.{unsigned, signed, unsigned_bytes, signed_bytes, stored}
use Rattle.lent.specs.Word.{word, Answered}

-- how many bytes a state has: sixteen counts of four bytes each, then sixteen held numbers of eight
abbrev pub count_bytes : ℕ
count_bytes = 4 * max_workers

abbrev pub state_bytes : ℕ
state_bytes = count_bytes + 8 * max_workers

-- the bytes of a run's state, and of its sums
pub record Bytes : Type 0 where
  pub state : List ℕ
  pub sums : List ℕ

-- the state that bytes stand for, beside sums of eight bytes each
abbrev pub state_in : (state sums : List ℕ) → State
state_in state sums = record { made = unsigned 4 (take count_bytes state); held = signed 8 (drop count_bytes state); sums = signed 8 sums }

-- a call's answer: 5, 6, 8 come before 11, which a state of another length is refused with, too
unfoldable pub answer_in : Matrix → List ℤ → (order groups : List ℕ) (count : ℕ) (state sums : List ℕ) → Call → Answer
answer_in m x order groups count state sums c =
    cond (eqb (length state) state_bytes) (answer_lent m x order groups count (state_in state sums) c) (in_turn denied (job_checks m x order groups count) (denied why.not_state 0))

-- the reply that a call's word says: picks taken, or the number and place that ended them, also of a preview;
-- sixteen bits, and above them the count of those set; 0 for forces
unfoldable pub reply_to : Answer → Reply
reply_to (picked taken zero place) = replies.accepted taken
reply_to (picked taken (suc k) place) = replies.refused (suc k) place
reply_to (is_ready bits count) = replies.accepted (bits + count * 65536)
reply_to (forces zs) = replies.accepted 0
reply_to (denied number place) = replies.refused number place
reply_to (previewed taken zero place bits count) = replies.accepted taken
reply_to (previewed taken (suc k) place bits count) = replies.refused (suc k) place

-- Q-7: above it in a preview's word the ready set afterwards: the count in bits 40 to 47, a bit for each worker in bits
-- 48 to 63; none where the call is refused
unfoldable pub set_in : Answer → ℕ
set_in (previewed taken number place bits count) = count * 2 ^ 40 + bits * 2 ^ 48
set_in (picked taken number place) = 0
set_in (is_ready bits count) = 0
set_in (forces zs) = 0
set_in (denied number place) = 0

abbrev pub preview_word : Answer → ℕ
preview_word a = word (reply_to a) + set_in a

-- Q-14: the word of rounds: the moves made, or the refused pick's index, in bits 0 to 31, the number in bits 32 to 39,
-- and the moves made in bits 40 to 63, always; of an index past 32 bits the low ones
unfoldable pub round_word : Answer → ℕ
round_word (picked taken zero place) = taken + taken * 2 ^ 40
round_word (picked taken (suc k) place) = place % 2 ^ 32 + suc k * 2 ^ 32 + taken * 2 ^ 40
round_word (is_ready bits count) = word (reply_to (is_ready bits count))
round_word (forces zs) = word (reply_to (forces zs))
round_word (denied number place) = word (reply_to (denied number place))
round_word (previewed taken number place bits count) = word (reply_to (previewed taken number place bits count))

-- ---- what is left in the lists that a call fills

-- the bytes of the forces
unfoldable pub force_bytes : Answer → List ℕ
force_bytes (forces zs) = signed_bytes 8 zs
force_bytes (picked taken number place) = []
force_bytes (is_ready bits count) = []
force_bytes (denied number place) = []
force_bytes (previewed taken number place bits count) = []

-- a force-list call with this answer: the returned word, and the lent list after it
abbrev pub ForcesAnswered : Answer → (old : List ℕ) (returned : ℕ) (new : List ℕ) → Type 0
ForcesAnswered a old returned new = Answered (reply_to a) (force_bytes a) old returned new

-- the bytes of a state, without its sums
abbrev pub bytes_in : State → List ℕ
bytes_in s = unsigned_bytes 4 s.made ++ signed_bytes 8 s.held

-- a lent list after a call of picks or rounds with this answer: as the picks taken left it, also if
-- there are none; where 5, 6, 8 or 11 refused the call, as it was
unfoldable pub left_by : Answer → (new old : List ℕ) → List ℕ
left_by (picked taken number place) new old = stored new old
left_by (is_ready bits count) new old = old
left_by (forces zs) new old = old
left_by (denied number place) new old = old
left_by (previewed taken number place bits count) new old = old

-- a call that takes picks, with this word and answer, and leaves this state: the returned word, and the lent lists
-- after it
pub record Moved (told : ℕ) (a : Answer) (s : State) (state sums : List ℕ) (returned : ℕ) (new_state new_sums : List ℕ) : Type 0 where
  pub returns : returned ≡ told
  pub state-left : new_state ≡ left_by a (bytes_in s) state
  pub sums_left : new_sums ≡ left_by a (signed_bytes 8 s.sums) sums

-- .. on a run whose lists are lent, where told gives the word of an answer
abbrev pub LentMoved : (told : Answer → ℕ) → Matrix → List ℤ → (order groups : List ℕ) (count : ℕ) (state sums : List ℕ) → Call → (returned : ℕ) (new_state new_sums : List ℕ) → Type 0
LentMoved told m x order groups count state sums c =
    Moved (told (answer_in m x order groups count state sums c)) (answer_in m x order groups count state sums c) (after_lent m x order groups count (state_in state sums) c) state sums

-- of picks, and of rounds
abbrev pub LentPicks : Matrix → List ℤ → (order groups : List ℕ) (count : ℕ) (state sums : List ℕ) → Call → (returned : ℕ) (new_state new_sums : List ℕ) → Type 0
LentPicks = LentMoved (λ a. word (reply_to a))

abbrev pub LentRounds : Matrix → List ℤ → (order groups : List ℕ) (count : ℕ) (state sums : List ℕ) → Call → (returned : ℕ) (new_state new_sums : List ℕ) → Type 0
LentRounds = LentMoved round_word
