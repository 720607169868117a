-- The calls on a run, and their answers.
use Rattle.std.specs.Prelude.{List, ℕ, ℤ}
use Rattle.run.specs.Machine.{bits}

pub data Call : Type 0 where
  picks : (schedule : List ℕ) → Call
  ready_set : Call
  -- how long the lent list is
  force_list : (room : ℕ) → Call
  -- Q-7: "what a list of picks would do"
  preview : (schedule : List ℕ) → Call
  -- Q-14: "pick all workers in turn and pass over those that can't move"
  rounds : (schedule : List ℕ) → Call

pub data Answer : Type 0 where
  -- "the number that the call took and that ending, or 0 at 0 as its ending if it took all"
  picked : (taken number place : ℕ) → Answer
  -- "sixteen bits .. and the count of those set"
  is_ready : (bits count : ℕ) → Answer
  forces : List ℤ → Answer
  denied : (number place : ℕ) → Answer
  -- Q-7: "the number taken, the reason for stopping and the ready set afterwards"
  previewed : (taken number place bits count : ℕ) → Answer

-- the ready set that an answer tells, as bits and their count; the empty set if it tells none
unfoldable pub bits_told : Answer → ℕ
bits_told (picked taken number place) = 0
bits_told (is_ready bits count) = bits
bits_told (forces zs) = 0
bits_told (denied number place) = 0
bits_told (previewed taken number place bits count) = bits

unfoldable pub count_told : Answer → ℕ
count_told (picked taken number place) = 0
count_told (is_ready bits count) = count
count_told (forces zs) = 0
count_told (denied number place) = 0
count_told (previewed taken number place bits count) = count

-- the answer of picks, with the ready set that is told after them; a refusal stays one
unfoldable pub shown : (ended there : Answer) → Answer
shown (picked taken number place) there = previewed taken number place (bits_told there) (count_told there)
shown (is_ready bits count) there = is_ready bits count
shown (forces zs) there = forces zs
shown (denied number place) there = denied number place
shown (previewed taken number place bits count) there = previewed taken number place bits count
