-- The calls for two crews, their answers, and the states that each leaves.
use Rattle.std.specs.Prelude.{List, [], ◌∷◌, ℕ, ℤ, length}
use Rattle.base.specs.Refusals as why
use Rattle.base.specs.Replies.{Check, check, in_turn}
use Rattle.matrix.specs.Matrix.{Matrix, matrix_check, displacement_check}
use Rattle.plan.specs.Groups.{plan_of}
use Rattle.plan.specs.Sound.{plan_check}
use Rattle.run.specs.State.{State}
use Rattle.run.specs.Machine.{bits, is_state}
use Rattle.run.specs.Answers.{force_list, Answer, denied}
use Rattle.run.specs.Calls.{picked_of, answer, answer_lent}
use Rattle.crews.specs.Crews.{Crew, crew0, crew1, Two, own_of, Roof, job_for, turns, crew_ready}

pub data BothCall : Type 0 where
  picks_both : (schedule : List ℕ) → BothCall
  ready_sets : BothCall
  -- a crew's own force-list call
  forces_for : Crew → (room : ℕ) → BothCall

-- "sixteen bits .. and the count of those set"
pub record ReadySet : Type 0 where
  pub bits : ℕ
  pub count : ℕ

pub data BothAnswer : Type 0 where
  one : Answer → BothAnswer
  -- the ready set of each
  sets : Two ReadySet → BothAnswer

unfoldable pub ready_for : Roof → Two State → Crew → ReadySet
ready_for r s c = record { bits = bits (crew_ready r s c); count = length (crew_ready r s c) }

unfoldable pub ready_both : Roof → Two State → BothAnswer
ready_both r s = sets (record { of0 = ready_for r s crew0; of1 = ready_for r s crew1 })

-- "In each check crew 0's lists come before crew 1's": 11
unfoldable pub state_checks : Roof → Two State → List Check
state_checks r s = check why.not_state (is_state (job_for r crew0) s.of0) ∷ check why.not_state (is_state (job_for r crew1) s.of1) ∷ []

abbrev pub denied_both : (number place : ℕ) → BothAnswer
denied_both number place = one (denied number place)

-- a call on an accepted roof: its answer, and the states that it leaves
unfoldable pub answer_both : Roof → Two State → BothCall → BothAnswer
answer_both r s (picks_both bs) = in_turn denied_both (state_checks r s) (one (picked_of (turns r s bs).taken (turns r s bs).number))
answer_both r s ready_sets = in_turn denied_both (state_checks r s) (ready_both r s)
answer_both r s (forces_for c room) = one (answer (job_for r c) (own_of s c) (force_list room))

unfoldable pub after_both : Roof → Two State → BothCall → Two State
after_both r s (picks_both bs) = in_turn (λ number place. s) (state_checks r s) (turns r s bs).state
after_both r s ready_sets = s
after_both r s (forces_for c room) = s

-- ---- a call for both on lent lists, any whatever: 5; 6 of crew 0, of crew 1; 8 come before 11

unfoldable pub roof_of : Matrix → Two (List ℤ) → (order groups : List ℕ) (count : ℕ) → Roof
roof_of m x order groups count = record { matrix = m; displacements = x; plan = plan_of m.n order groups count }

unfoldable pub roof_checks : Matrix → Two (List ℤ) → (order groups : List ℕ) (count : ℕ) → List Check
roof_checks m x order groups count = matrix_check m ∷ displacement_check m.n x.of0 ∷ displacement_check m.n x.of1 ∷ plan_check m order groups count ∷ []

-- a crew's own call has its own checks alone
unfoldable pub answer_both_lent : Matrix → Two (List ℤ) → (order groups : List ℕ) (count : ℕ) → Two State → BothCall → BothAnswer
answer_both_lent m x order groups count s (picks_both bs) = in_turn denied_both (roof_checks m x order groups count) (answer_both (roof_of m x order groups count) s (picks_both bs))
answer_both_lent m x order groups count s ready_sets = in_turn denied_both (roof_checks m x order groups count) (answer_both (roof_of m x order groups count) s ready_sets)
answer_both_lent m x order groups count s (forces_for c room) = one (answer_lent m (own_of x c) order groups count (own_of s c) (force_list room))

unfoldable pub after_both_lent : Matrix → Two (List ℤ) → (order groups : List ℕ) (count : ℕ) → Two State → BothCall → Two State
after_both_lent m x order groups count s c = in_turn (λ number place. s) (roof_checks m x order groups count) (after_both (roof_of m x order groups count) s c)
