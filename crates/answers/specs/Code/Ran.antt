-- A call on a run in bytes before its answer is stored, and what the code needs to store it.
use Rattle.std.specs.Prelude.{◌≡◌, Result, Ok, List, [], ℕ, ◌/◌, ◌^◌, ◌≤◌, ◌<◌, ℤ, length, take, drop}
use Rattle.base.specs.declared.Refusal.{Refusal}
use Rattle.base.specs.Replies.{lent}
use Rattle.matrix.specs.Matrix.{Matrix}
use Rattle.run.specs.State.{State}
use Rattle.run.specs.Calls.{answer_lent, after_lent}
use Rattle.run.specs.Answers.{Call, picks, ready_set, force_list, preview, rounds, Answer, picked, previewed}
use Rattle.machine.specs.Record.{state_of}
use Rattle.machine.specs.declared.state.State as code
use Rattle.calls.specs.Performed.{as_answer}
use Rattle.calls.specs.declared.Response.{Response}
use Rattle.calls.specs.declared.Response.TheVariants.{Forces}
use Rattle.words.specs.LittleEndian.{unsigned, signed, signed_bytes}
use Rattle.answers.specs.Runs.{state_bytes, count_bytes, state_in, answer_in, reply_to, force_bytes, bytes_in, left_by}

-- the record that 192 bytes stand for
pub record StateIs (r : code.State) (bytes : List ℕ) : Type 0 where
  pub made : r.made ≡ unsigned 4 (take count_bytes bytes)
  pub held : r.held ≡ signed 8 (drop count_bytes bytes)

-- call c on a run whose state and sums are decoded: the code's answer, with the forces that it may have, the state
-- after it, and the lent list after it
pub record Called (m : Matrix) (x : List ℤ) (order groups : List ℕ) (count : ℕ) (s : State) (c : Call) (old : List ℕ) (answer : Result Response Refusal) (after : State) (left : List ℕ) : Type 0 where
  pub made : List ℤ
  pub answers : as_answer answer made ≡ answer_lent m x order groups count s c
  pub leaves : after ≡ after_lent m x order groups count s c
  pub lists : left ≡ lent (reply_to (as_answer answer made)) (force_bytes (as_answer answer made)) old

-- picks that were taken leave state s: it is in the record and the first n numbers of
-- `new`, there is room for it, and the moves made and the number fit a word of rounds
pub record Taken (n : ℕ) (s : State) (taken number : ℕ) (state sums : List ℕ) (after : code.State) (new : List ℤ) : Type 0 where
  pub left : state_of after (take n new) ≡ s
  pub whole : length state ≡ state_bytes
  pub inside : n ≤ length new
  pub room : n ≤ length sums / 8
  pub moves_low : taken < 2 ^ 24
  pub number_low : number < 2 ^ 8

-- the parts of a preview's word, each below what is above it
pub record Parts (taken number place bits count : ℕ) : Type 0 where
  pub taken_low : taken < 2 ^ 32
  pub number_low : number < 2 ^ 8
  pub place_low : place < 2 ^ 32
  pub count_low : count < 2 ^ 8
  pub bits_low : bits < 2 ^ 16

-- a call other than rounds
unfoldable pub Plain : Call → Type 0
Plain (picks ws) = Unit {0}
Plain ready_set = Unit {0}
Plain (force_list room) = Unit {0}
Plain (preview ws) = Unit {0}
Plain (rounds ws) = ⊥

-- call c with the answer a, that leaves state s if that is of picks: the code's answer,
-- with the forces that it may have, and what stands in the lists
pub record Ran (n : ℕ) (c : Call) (a : Answer) (s : State) (state sums old : List ℕ) (answer : Result Response Refusal) (after : code.State) (new : List ℤ) (left : List ℕ) : Type 0 where
  pub made : List ℤ
  pub answers : as_answer answer made ≡ a
  pub lists : left ≡ lent (reply_to a) (force_bytes a) old
  pub taken : (k q p : ℕ) → a ≡ picked k q p → Taken n s k q state sums after new
  pub low : Plain c → (k q p : ℕ) → a ≡ picked k q p → p < 2 ^ 32
  pub looked : (t q p b k : ℕ) → a ≡ previewed t q p b k → Parts t q p b k

-- .. on a run whose lists are lent
abbrev pub RanLent : Matrix → List ℤ → (order groups : List ℕ) (count : ℕ) (state sums old : List ℕ) → Call → Result Response Refusal → code.State → (new : List ℤ) (left : List ℕ) → Type 0
RanLent m x order groups count state sums old c =
    Ran m.n c (answer_in m x order groups count state sums c) (after_lent m x order groups count (state_in state sums) c) state sums old

-- the parts of a preview's word fit it
abbrev pub Looks : Result Response Refusal → Type 0
Looks answer = (t q p b k : ℕ) → as_answer answer [] ≡ previewed t q p b k → Parts t q p b k

-- the place of picks' ending fits a word's low half
abbrev pub LowPlace : Result Response Refusal → Type 0
LowPlace answer = ((k q p : ℕ) → as_answer answer [] ≡ picked k q p → p < 2 ^ 32) × Looks answer

-- the moves made and the number of rounds fit their word
abbrev pub LowMoves : Result Response Refusal → Type 0
LowMoves answer = ((k q p : ℕ) → as_answer answer [] ≡ picked k q p → (k < 2 ^ 24) × (q < 2 ^ 8)) × Looks answer

-- picks have a whole state and n sums to be stored over
abbrev pub PicksFit : (n : ℕ) → Result Response Refusal → (new : List ℤ) (state sums : List ℕ) → Type 0
PicksFit n answer new state sums = (k q p : ℕ) → as_answer answer [] ≡ picked k q p → (length state ≡ state_bytes) × (n ≤ length new) × (n ≤ length sums / 8)

-- forces have n places
abbrev pub ForcesFit : (n : ℕ) → Result Response Refusal → (made : List ℤ) (forces : List ℕ) → Type 0
ForcesFit n answer made forces = answer ≡ Ok Forces → (n ≤ length made) × (n ≤ length forces / 8)

-- ---- a call before its word is made, where told is the answer that its word says

-- one that takes picks: the code's answer, whose parts fit a word, and the lent lists after it
pub record Took (c : Call) (told a : Answer) (s : State) (state sums : List ℕ) (answer : Result Response Refusal) (new_state new_sums : List ℕ) : Type 0 where
  pub made : List ℤ
  pub answers : as_answer answer made ≡ told
  pub state-left : new_state ≡ left_by a (bytes_in s) state
  pub sums_left : new_sums ≡ left_by a (signed_bytes 8 s.sums) sums
  pub place_low : Plain c → LowPlace answer
  pub moves_low : LowMoves answer

-- one that leaves state and sums: the code's answer, with the forces that it may have, and their lent list after it
pub record Gave (c : Call) (told : Answer) (old : List ℕ) (answer : Result Response Refusal) (new : List ℕ) : Type 0 where
  pub made : List ℤ
  pub answers : as_answer answer made ≡ told
  pub lists : new ≡ lent (reply_to told) (force_bytes told) old
  pub place_low : Plain c → LowPlace answer

-- .. on a run whose lists are lent
abbrev pub TookLent : Matrix → List ℤ → (order groups : List ℕ) (count : ℕ) (state sums : List ℕ) → Call → Result Response Refusal → (new_state new_sums : List ℕ) → Type 0
TookLent m x order groups count state sums c =
    Took c (answer_in m x order groups count state sums c) (answer_in m x order groups count state sums c) (after_lent m x order groups count (state_in state sums) c) state sums

abbrev pub GaveLent : Matrix → List ℤ → (order groups : List ℕ) (count : ℕ) (state sums : List ℕ) → Call → (old : List ℕ) → Result Response Refusal → (new : List ℕ) → Type 0
GaveLent m x order groups count state sums c = Gave c (answer_in m x order groups count state sums c)
