-- Request Q-9, sentence by sentence: what holds of every two runs that begin fresh and that only calls for both write.
use Rattle.std.specs.Prelude.{◌≡◌, Bool, true, false, List, [], ◌∷◌, ◌++◌, map, ℕ, suc, ◌+◌, ◌*◌, ◌≤◌, ◌<◌, length, take, ℤ}
use Rattle.base.specs.Lists.{all, is_in}
use Rattle.base.specs.Refusals as why
use Rattle.matrix.specs.Matrix.{Matrix, are_displacements}
use Rattle.matrix.specs.Product.{product}
use Rattle.plan.specs.Sound.{max_workers}
use Rattle.run.specs.Job.{Job, Accepted, workers}
use Rattle.run.specs.Updates.{owner, up_to, count}
use Rattle.run.specs.State.{State, fresh}
use Rattle.run.specs.Machine.{refusal, halted, step, ready}
use Rattle.run.specs.Answers.{picks, picked, forces}
use Rattle.run.specs.Sequence.{answers_from, state_after}
use Rattle.run.specs.Model.{is_finished}
use Rattle.run.specs.OneAccess.{Walk}
use Rattle.run.specs.EveryRun.{taken_of, run_state, run_answers, whole_run, EveryRun}
use Rattle.run.specs.Consequences.{number_of}
use Rattle.crews.specs.Crews.{Crew, other, crew_number, Two, own_of, put_for, Roof, job_for, in_row, is_away, crew_step, for_both, turn, named_for, crew_ready}
use Rattle.crews.specs.Calls.{BothCall, picks_both, ready_sets, forces_for, BothAnswer, one, sets, answer_both, after_both, roof_of, answer_both_lent, after_both_lent, roof_checks}

-- the roof is "such as document 01 takes", for each crew
abbrev pub AcceptedRoof : Roof → Type 0
AcceptedRoof r = (c : Crew) → Accepted (job_for r c)

-- "If both begin fresh and only calls for both write them"
unfoldable pub both_fresh : (n : ℕ) → Two State
both_fresh n = record { of0 = fresh n; of1 = fresh n }

unfoldable pub both_state : Roof → List BothCall → Two State
both_state r cs = state_after (after_both r) (both_fresh r.matrix.n) cs

unfoldable pub both_answers : Roof → List BothCall → List BothAnswer
both_answers r cs = answers_from (answer_both r) (after_both r) (both_fresh r.matrix.n) cs

-- "The run is finished when all counts are all their workers' moves"
unfoldable pub finished_for : Roof → List BothCall → Crew → Bool
finished_for r cs c = is_finished (job_for r c) (own_of (both_state r cs) c).made

-- how many picks an answer says were taken, and its number
unfoldable pub taken_of_both : BothAnswer → ℕ
taken_of_both (one a) = taken_of a
taken_of_both (sets t) = 0

unfoldable pub number_of_both : BothAnswer → ℕ
number_of_both (one a) = number_of a
number_of_both (sets t) = 0

-- the picks that a call took, and a list of calls
unfoldable pub picks_taken : Roof → Two State → BothCall → List ℕ
picks_taken r s (picks_both bs) = take (taken_of_both (answer_both r s (picks_both bs))) bs
picks_taken r s ready_sets = []
picks_taken r s (forces_for c room) = []

unfoldable pub all_taken : Roof → Two State → List BothCall → List ℕ
all_taken r s [] = []
all_taken r s (c ∷ cs) = picks_taken r s c ++ all_taken r (after_both r s c) cs

-- the workers of the picks that were taken for crew c
unfoldable pub taken_for : Roof → List BothCall → Crew → List ℕ
taken_for r cs c = named_for c (all_taken r (both_fresh r.matrix.n) cs)

-- "the rest of demand 3 holding of each run"
pub record OwnRun (r : Roof) (cs : List BothCall) (c : Crew) : Type 0 where
  -- the crew's state is that of a run of its own by the picks taken for it, all of which that run takes
  pub reached : own_of (both_state r cs) c ≡ run_state (job_for r c) (picks (taken_for r cs c) ∷ [])
  pub answered : run_answers (job_for r c) (picks (taken_for r cs c) ∷ []) ≡ picked (length (taken_for r cs c)) 0 0 ∷ []
  pub demand3 : EveryRun (job_for r c) (picks (taken_for r cs c) ∷ [])
  -- "each pick taken makes just the one load or store on the sums that document 01 gives its worker next": from all 0
  -- the crew came to its state by one access for each pick taken for it, and by nothing else
  pub walked : Walk (job_for r c) (fresh r.matrix.n) (taken_for r cs c) (own_of (both_state r cs) c)
  -- "A run is finished exactly when the picks taken are two for each freedom and four for each joined pair"
  pub enough : finished_for r cs c ≡ true → length (taken_for r cs c) ≡ whole_run (job_for r c)
  pub only_then : length (taken_for r cs c) ≡ whole_run (job_for r c) → finished_for r cs c ≡ true
  -- "Each crew's finished list is its own product"
  pub forced : finished_for r cs c ≡ true → (room : ℕ) → r.matrix.n ≤ room → answer_both r (both_state r cs) (forces_for c room) ≡ one (forces (product r.matrix (own_of r.displacements c)))

-- "has begun a row", and not finished it: it has made some accesses of a row of its own and not all, whatever the
-- counts
pub record Begun (j : Job) (made : List ℕ) (w : ℕ) : Type 0 where
  pub inside : (p : ℕ) → p < j.matrix.n → 2 * length (up_to j w p) < count made w → count made w < 2 * length (up_to j w (suc p)) → in_row j made w ≡ true
  pub row : in_row j made w ≡ true → (p : ℕ) × (p < j.matrix.n) × (owner j p ≡ w) × (2 * length (up_to j w p) < count made w) × (count made w < 2 * length (up_to j w (suc p)))

-- in which order a pick is refused by the counts, whatever the states
pub record PicksInOrder (r : Roof) (s : Two State) : Type 0 where
  -- "a pick byte is 16 × crew + worker"; "18: pick names no crew, before 10"
  pub named : (c : Crew) (w : ℕ) → w < max_workers → turn r s (max_workers * crew_number c + w) ≡ for_both s c (crew_step r s c w)
  pub crewless : (b : ℕ) → 2 * max_workers ≤ b → turn r s b ≡ halted why.no_crew
  -- "19: worker is inside the other crew's row, after 13"
  pub own_first : (c : Crew) (w k : ℕ) → refusal (job_for r c) (own_of s c).made w ≡ suc k → crew_step r s c w ≡ halted (suc k)
  pub then_away : (c : Crew) (w : ℕ) → refusal (job_for r c) (own_of s c).made w ≡ 0 → is_away r s c w ≡ true → crew_step r s c w ≡ halted why.elsewhere
  -- else it is the step of the crew's own run
  pub else_own : (c : Crew) (w : ℕ) → is_away r s c w ≡ false → crew_step r s c w ≡ step (job_for r c) (own_of s c) w
  -- "until then the other's ready set leaves it out", and it leaves out nobody else
  pub left_out : (c : Crew) (w : ℕ) → in_row (job_for r (other c)) (own_of s (other c)).made w ≡ true → is_in (crew_ready r s c) w ≡ false
  pub left_in : (c : Crew) (w : ℕ) → in_row (job_for r (other c)) (own_of s (other c)).made w ≡ false → is_in (crew_ready r s c) w ≡ is_in (ready (job_for r c) (own_of s c).made) w

-- two empty ready sets
abbrev pub none_ready : BothAnswer
none_ready = sets (record { of0 = record { bits = 0; count = 0 }; of1 = record { bits = 0; count = 0 } })

-- a call with the one pick of worker w for crew c takes it
abbrev pub Takes : Roof → Two State → Crew → (w : ℕ) → Type 0
Takes r s c w = answer_both r s (picks_both ((max_workers * crew_number c + w) ∷ [])) ≡ one (picked 1 0 0)

pub record BothRuns (r : Roof) (cs : List BothCall) : Type 0 where
  pub each : (c : Crew) → OwnRun r cs c
  -- the only numbers met: not 11, and not 14
  pub numbers : all (is_in (0 ∷ why.too_short ∷ why.no_worker ∷ why.all_done ∷ why.must_wait ∷ why.too_early ∷ why.no_crew ∷ why.elsewhere ∷ [])) (map number_of_both (both_answers r cs)) ≡ true
  -- "some worker can move", "said of the two runs together": until both are finished
  pub can_move : (c : Crew) → finished_for r cs c ≡ false → (d : Crew) × (w : ℕ) × (w < workers (job_for r d)) × Takes r (both_state r cs) d w
  -- "A worker that has begun a row for one crew must finish it", and can go on in it at once
  pub goes_on : (c : Crew) (w : ℕ) → w < workers (job_for r c) → in_row (job_for r c) (own_of (both_state r cs) c).made w ≡ true → Takes r (both_state r cs) c w
  -- "both ready sets are empty together only when both runs are finished", and then they are
  pub empty_finished : answer_both r (both_state r cs) ready_sets ≡ none_ready → (c : Crew) → finished_for r cs c ≡ true
  pub finished_empty : ((c : Crew) → finished_for r cs c ≡ true) → answer_both r (both_state r cs) ready_sets ≡ none_ready

-- "every movement list .. that the other could bring"
abbrev pub bring : Roof → Crew → List ℤ → Roof
bring r c x = record { matrix = r.matrix; displacements = put_for r.displacements (other c) x; plan = r.plan }

-- "for the same matrix, plan, own movements and calls, all answers and sums of one crew are the same": after any calls,
-- what it may ask next, and its state
pub record Unmoved (r q : Roof) (c : Crew) (cs : List BothCall) : Type 0 where
  pub picked : (bs : List ℕ) → answer_both r (both_state r cs) (picks_both bs) ≡ answer_both q (both_state q cs) (picks_both bs)
  pub ready : answer_both r (both_state r cs) ready_sets ≡ answer_both q (both_state q cs) ready_sets
  pub forced : (room : ℕ) → answer_both r (both_state r cs) (forces_for c room) ≡ answer_both q (both_state q cs) (forces_for c room)
  pub left : own_of (both_state r cs) c ≡ own_of (both_state q cs) c

-- lent lists that pass their checks: no call for both refuses them with 5, 6 or 8
unfoldable pub passed_both : Matrix → Two (List ℤ) → (order groups : List ℕ) (count : ℕ) → Bool
passed_both m x order groups count = all (λ c. c.holds) (roof_checks m x order groups count)

-- the calls on them are the calls on the roof in them
pub record LentBoth (m : Matrix) (x : Two (List ℤ)) (order groups : List ℕ) (count : ℕ) : Type 0 where
  pub accepted : AcceptedRoof (roof_of m x order groups count)
  pub answered : (s : Two State) (c : BothCall) → answer_both_lent m x order groups count s c ≡ answer_both (roof_of m x order groups count) s c
  pub left : (s : Two State) (c : BothCall) → after_both_lent m x order groups count s c ≡ after_both (roof_of m x order groups count) s c
  pub all_answered : (cs : List BothCall) → answers_from (answer_both_lent m x order groups count) (after_both_lent m x order groups count) (both_fresh m.n) cs ≡ both_answers (roof_of m x order groups count) cs
  pub all_left : (cs : List BothCall) → state_after (after_both_lent m x order groups count) (both_fresh m.n) cs ≡ both_state (roof_of m x order groups count) cs

pub record TwoCrews : Type 0 where
  pub begun : (j : Job) (made : List ℕ) (w : ℕ) → Begun j made w
  pub in_order : (r : Roof) (s : Two State) → PicksInOrder r s
  pub both_runs : (r : Roof) → AcceptedRoof r → (cs : List BothCall) → BothRuns r cs
  pub unmoved : (r : Roof) → AcceptedRoof r → (c : Crew) (x : List ℤ) → are_displacements r.matrix.n x ≡ true → (cs : List BothCall) → Unmoved r (bring r c x) c cs
  pub lent : (m : Matrix) (x : Two (List ℤ)) (order groups : List ℕ) (count : ℕ) → passed_both m x order groups count ≡ true → LentBoth m x order groups count
