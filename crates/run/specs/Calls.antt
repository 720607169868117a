-- What the machine answers to the calls on one run, and the state that each leaves.
use Rattle.std.specs.Prelude.{Bool, true, false, List, [], ◌∷◌, ◌++◌, ℕ, zero, suc, length, drop, leb, ℤ}
use Rattle.base.specs.Refusals as why
use Rattle.base.specs.Replies.{Check, check, in_turn}
use Rattle.matrix.specs.Matrix.{Matrix, matrix_check, displacement_check}
use Rattle.plan.specs.Sound.{plan_check}
use Rattle.run.specs.Job.{Job, job_of}
use Rattle.run.specs.Machine.{steps, ready, bits, over, original, is_state}
use Rattle.run.specs.Schedule.{Passed}
use Rattle.run.specs.Rounds.{round}
use Rattle.run.specs.State.{State}
use Rattle.run.specs.Answers.{Call, picks, ready_set, force_list, preview, rounds, Answer, picked, is_ready, forces, denied, previewed, shown}

unfoldable pub place_of : (number taken : ℕ) → ℕ
place_of zero taken = 0
place_of (suc k) taken = taken

unfoldable pub picked_of : (taken number : ℕ) → Answer
picked_of taken number = picked taken number (place_of number taken)

-- Q-14: "it tells how many moves were made", and its ending stands at the pick's index
unfoldable pub passed_of : Passed State → Answer
passed_of r = picked r.taken r.number (place_of r.number r.met)

unfoldable pub ready_of : Job → (made : List ℕ) → Answer
ready_of j made = is_ready (bits (ready j made)) (length (ready j made))

-- "15 until then, afterwards 9 at n if its list is shorter than n, else 0 with" the forces
unfoldable pub forces_of : (is_over long : Bool) → ℕ → List ℤ → Answer
forces_of false long n zs = denied why.too_early 0
forces_of true false n zs = denied why.too_short n
forces_of true true n zs = forces zs

unfoldable pub answer_of : Job → State → Call → Answer
answer_of j s (picks ws) = picked_of (steps j s ws).taken (steps j s ws).number
answer_of j s ready_set = ready_of j s.made
answer_of j s (force_list room) = forces_of (over j s.made) (leb j.matrix.n room) j.matrix.n (original j s.sums)
answer_of j s (preview ws) = shown (picked_of (steps j s ws).taken (steps j s ws).number) (ready_of j (steps j s ws).state.made)
answer_of j s (rounds ws) = passed_of (round j s ws)

unfoldable pub after_of : Job → State → Call → State
after_of j s (picks ws) = (steps j s ws).state
after_of j s ready_set = s
after_of j s (force_list room) = s
-- Q-7: "with the state and sums left alone"
after_of j s (preview ws) = s
after_of j s (rounds ws) = (round j s ws).state

unfoldable pub state_check : Job → State → List Check
state_check j s = check why.not_state (is_state j s) ∷ []

-- a call on an accepted job: its answer, and the state that it leaves
unfoldable pub answer : Job → State → Call → Answer
answer j s c = in_turn denied (state_check j s) (answer_of j s c)

unfoldable pub after : Job → State → Call → State
after j s c = in_turn (λ number place. s) (state_check j s) (after_of j s c)

-- ---- a call on lent lists, any whatever: 5, 6, 8 come before 11

unfoldable pub job_checks : Matrix → List ℤ → (order groups : List ℕ) (count : ℕ) → List Check
job_checks m x order groups count = matrix_check m ∷ displacement_check m.n x ∷ plan_check m order groups count ∷ []

unfoldable pub answer_lent : Matrix → List ℤ → (order groups : List ℕ) (count : ℕ) → State → Call → Answer
answer_lent m x order groups count s c = in_turn denied (job_checks m x order groups count) (answer (job_of m x order groups count) s c)

unfoldable pub after_lent : Matrix → List ℤ → (order groups : List ℕ) (count : ℕ) → State → Call → State
after_lent m x order groups count s c = in_turn (λ number place. s) (job_checks m x order groups count) (after (job_of m x order groups count) s c)

-- the lent list of forces after the call: "Places past the answer are unchanged"
unfoldable pub forces_lent : Answer → List ℤ → List ℤ
forces_lent (forces zs) old = zs ++ drop (length zs) old
forces_lent (picked taken number place) old = old
forces_lent (is_ready bits count) old = old
forces_lent (denied number place) old = old
forces_lent (previewed taken number place bits count) old = old
