-- The call that prepares a job; the calls on a prepared list, any whatever, and a run whose state and sums stand in
-- bytes.
use Rattle.std.specs.Prelude.{cond, List, ℕ, ◌%◌, ◌^◌, eqb, ℤ, length}
use Rattle.base.specs.Refusals as why
use Rattle.base.specs.Replies.{in_turn}
use Rattle.matrix.specs.Matrix.{Matrix}
use Rattle.run.specs.Job.{job_of}
use Rattle.run.specs.Answers.{Call, Answer, picked, is_ready, forces, denied, previewed}
use Rattle.lent.specs.Word.{word, Answered}
use Rattle.answers.specs.Runs.{state_bytes, state_in, reply_to, round_word, Moved}
use Rattle.prepared.specs.Format.{prepared_bytes}
use Rattle.prepared.specs.Prepare.{prepare_reply}
use Rattle.prepared.specs.PreparedRuns.{prepared_check, answer_prepared, after_prepared}

-- prepare: the returned word, and the lent list after it
abbrev pub PrepareAnswered : Matrix → List ℤ → (order groups : List ℕ) (count : ℕ) (old : List ℕ) (returned : ℕ) (new : List ℕ) → Type 0
PrepareAnswered m x order groups count old = Answered (prepare_reply m x order groups count (length old)) (prepared_bytes (job_of m x order groups count)) old

-- a call's answer: 26 comes before 11, which a state of another length is refused with, too
unfoldable pub answer_kept : (list state sums : List ℕ) → Call → Answer
answer_kept list state sums c = cond (eqb (length state) state_bytes) (answer_prepared list (state_in state sums) c) (in_turn denied (prepared_check list) (denied why.not_state 0))

-- what a word has room for: of more than 24 bits of moves and of more than 32 bits of an index the low ones. The list
-- of a job never has so many moves.
unfoldable pub fitting : Answer → Answer
fitting (picked taken number place) = picked (taken % 2 ^ 24) number (place % 2 ^ 32)
fitting (is_ready bits count) = is_ready bits count
fitting (forces zs) = forces zs
fitting (denied number place) = denied number place
fitting (previewed taken number place bits count) = previewed taken number place bits count

-- a call that takes picks: the returned word, and the lent lists after it
abbrev pub KeptMoved : (told : Answer → ℕ) (list state sums : List ℕ) → Call → (returned : ℕ) (new_state new_sums : List ℕ) → Type 0
KeptMoved told list state sums c = Moved (told (fitting (answer_kept list state sums c))) (answer_kept list state sums c) (after_prepared list (state_in state sums) c) state sums

-- of picks, and of rounds
abbrev pub KeptPicks : (list state sums : List ℕ) → Call → (returned : ℕ) (new_state new_sums : List ℕ) → Type 0
KeptPicks = KeptMoved (λ a. word (reply_to a))

abbrev pub KeptRounds : (list state sums : List ℕ) → Call → (returned : ℕ) (new_state new_sums : List ℕ) → Type 0
KeptRounds = KeptMoved round_word
