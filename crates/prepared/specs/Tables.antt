-- A run by tables: the machine of crates/run with everything about the job looked up. It is total, also for tables that
-- no job has.
use Rattle.std.specs.Prelude.{◌≡◌, Bool, true, ◌&&◌, cond, List, [], ◌∷◌, map, ℕ, zero, suc, ◌/◌, ◌<◌, eqb, ltb, leb, ℤ, pos, length, get_or}
use Rattle.base.specs.Lists.{range, position_of}
use Rattle.base.specs.Refusals as why
use Rattle.base.specs.Replies.{Check, check, in_turn}
use Rattle.plan.specs.Sound.{max_workers}
use Rattle.run.specs.Job.{Job, workers}
use Rattle.run.specs.Updates.{Update, count, updates, accesses, no_update}
use Rattle.run.specs.Machine.{reason, Outcome, step_if, bits}
use Rattle.run.specs.Schedule.{Passed, pass, skips_none}
use Rattle.run.specs.Rounds.{skips}
use Rattle.run.specs.State.{State}
use Rattle.run.specs.Answers.{Call, picks, ready_set, force_list, preview, rounds, Answer, is_ready, denied, shown}
use Rattle.run.specs.Calls.{passed_of, forces_of}
use Rattle.prepared.specs.Gates.{gate, behind}

pub record Tables : Type 0 where
  pub rows : ℕ
  -- the workers of the plan
  pub crew : ℕ
  -- how many accesses worker w makes
  pub most : (w : ℕ) → ℕ
  -- update number k of worker w
  pub update : (w k : ℕ) → Update
  -- how many accesses worker v must have made before it
  pub need : (w k v : ℕ) → ℕ
  -- the plan position of row i
  pub place : (i : ℕ) → ℕ

module _ (T : Tables) where
  -- ---- one step

  -- the update that worker w's next access belongs to
  unfoldable pub next_by : (made : List ℕ) → ℕ → Update
  next_by made w = T.update w (count made w / 2)

  -- worker w waits
  unfoldable pub waits_by : (made : List ℕ) → ℕ → Bool
  waits_by made w = behind made (T.need w (count made w / 2)) max_workers

  -- why a step is refused by the counts; 0: it is taken
  unfoldable pub refusal_by : (made : List ℕ) → ℕ → ℕ
  refusal_by made w = reason (ltb w T.crew) (leb (T.most w) (count made w)) (waits_by made w)

  unfoldable pub step_by : State → ℕ → Outcome State
  step_by s w = step_if (refusal_by s.made w) s w (next_by s.made w)

  -- a schedule that passes over the picks that are refused with these numbers
  abbrev pub pass_by : (skipped : ℕ → Bool) → State → (schedule : List ℕ) → Passed State
  pass_by skipped s ws = pass skipped step_by s ws

  -- ---- what is asked of a state

  -- the workers below k whose step would be taken, the last one first
  unfoldable pub ready_below_by : (made : List ℕ) → ℕ → List ℕ
  ready_below_by made zero = []
  ready_below_by made (suc w) = cond (eqb (refusal_by made w) 0) (w ∷ ready_below_by made w) (ready_below_by made w)

  abbrev pub ready_by : (made : List ℕ) → Answer
  ready_by made = is_ready (bits (ready_below_by made T.crew)) (length (ready_below_by made T.crew))

  -- every worker below k has made all its accesses
  unfoldable pub all_made_by : (made : List ℕ) → ℕ → Bool
  all_made_by made zero = true
  all_made_by made (suc w) = leb (T.most w) (count made w) && all_made_by made w

  -- the sums in original order
  unfoldable pub original_by : List ℤ → List ℤ
  original_by sums = map (λ i. get_or sums (T.place i) (pos 0)) (range 0 T.rows)

  -- no worker below k has a count past its accesses
  unfoldable pub counts_fine_by : (made : List ℕ) → ℕ → Bool
  counts_fine_by made zero = true
  counts_fine_by made (suc w) = leb (count made w) (T.most w) && counts_fine_by made w

  unfoldable pub is_state_by : State → Bool
  is_state_by s = eqb (length s.sums) T.rows && counts_fine_by s.made max_workers

  -- ---- the calls

  unfoldable pub answer_of_by : State → Call → Answer
  answer_of_by s (picks ws) = passed_of (pass_by skips_none s ws)
  answer_of_by s ready_set = ready_by s.made
  answer_of_by s (force_list room) = forces_of (all_made_by s.made T.crew) (leb T.rows room) T.rows (original_by s.sums)
  answer_of_by s (preview ws) = shown (passed_of (pass_by skips_none s ws)) (ready_by (pass_by skips_none s ws).state.made)
  answer_of_by s (rounds ws) = passed_of (pass_by skips s ws)

  unfoldable pub after_of_by : State → Call → State
  after_of_by s (picks ws) = (pass_by skips_none s ws).state
  after_of_by s ready_set = s
  after_of_by s (force_list room) = s
  after_of_by s (preview ws) = s
  after_of_by s (rounds ws) = (pass_by skips s ws).state

  -- 11, then the call
  unfoldable pub state_check_by : State → List Check
  state_check_by s = check why.not_state (is_state_by s) ∷ []

  unfoldable pub answer_by : State → Call → Answer
  answer_by s c = in_turn denied (state_check_by s) (answer_of_by s c)

  unfoldable pub after_by : State → Call → State
  after_by s c = in_turn (λ number place. s) (state_check_by s) (after_of_by s c)

-- ---- the tables of a job

-- update number k of worker w of the job
abbrev pub update_at : Job → (w k : ℕ) → Update
update_at j w k = get_or (updates j w) k no_update

pub record Of (T : Tables) (j : Job) : Type 0 where
  pub rows_are : T.rows ≡ j.matrix.n
  pub crew_is : T.crew ≡ workers j
  pub most_is : (w : ℕ) → w < max_workers → T.most w ≡ accesses j w
  pub target_is : (w k : ℕ) → w < workers j → k < length (updates j w) → (T.update w k).target ≡ (update_at j w k).target
  pub amount_is : (w k : ℕ) → w < workers j → k < length (updates j w) → (T.update w k).amount ≡ (update_at j w k).amount
  pub need_is : (w k v : ℕ) → w < workers j → k < length (updates j w) → v < max_workers → T.need w k v ≡ gate j (update_at j w k).row v
  pub place_is : (i : ℕ) → i < j.matrix.n → T.place i ≡ position_of j.plan.order i
