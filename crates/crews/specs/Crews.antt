-- Two crews on one set of cores (document 02, Q-9): the picks of both.
use Rattle.std.specs.Prelude.{Bool, true, false, not, ◌&&◌, List, map, ℕ, zero, suc, ◌*◌, ◌/◌, ◌%◌, eqb, ltb, ℤ, length}
use Rattle.base.specs.Lists.{filter}
use Rattle.base.specs.Refusals as why
use Rattle.matrix.specs.Matrix.{Matrix}
use Rattle.plan.specs.Groups.{Plan}
use Rattle.plan.specs.Sound.{max_workers}
use Rattle.run.specs.Job.{Job}
use Rattle.run.specs.Updates.{count, up_to, accesses, next}
use Rattle.run.specs.State.{State}
use Rattle.run.specs.Machine.{Outcome, moved, halted, refusal, step_if, ready}
use Rattle.run.specs.Schedule.{Passed, pass, skips_none}

-- "crew 0 or 1"
pub data Crew : Type 0 where
  crew0 crew1 : Crew

abbrev pub other : Crew → Crew
other crew0 = crew1
other crew1 = crew0

abbrev pub crew_number : Crew → ℕ
crew_number crew0 = 0
crew_number crew1 = 1

-- one thing for each crew
pub record Two (A : Type 0) : Type 0 where
  pub of0 : A
  pub of1 : A

module _ {A : Type 0} where
  abbrev pub own_of : Two A → Crew → A
  own_of t crew0 = t.of0
  own_of t crew1 = t.of1

  -- another thing for one of them
  abbrev pub put_for : Two A → Crew → A → Two A
  put_for t crew0 a = record { of0 = a; of1 = t.of1 }
  put_for t crew1 a = record { of0 = t.of0; of1 = a }

-- "Both halves of a roof load the same matrix and plan but have their own movements"
pub record Roof : Type 0 where
  pub matrix : Matrix
  pub displacements : Two (List ℤ)
  pub plan : Plan

abbrev pub job_for : Roof → Crew → Job
job_for r c = record { matrix = r.matrix; displacements = own_of r.displacements c; plan = r.plan }

-- a worker "has begun a row" and not finished it: it has an access left, and has made one in the row of that access
unfoldable pub in_row : Job → (made : List ℕ) → ℕ → Bool
in_row j made w = ltb (count made w) (accesses j w) && ltb (2 * length (up_to j w (next j made w).row)) (count made w)

-- "must finish it before it serves the other": worker w is inside a row of the crew that c is not
unfoldable pub is_away : Roof → Two State → Crew → ℕ → Bool
is_away r s c w = in_row (job_for r (other c)) (own_of s (other c)).made w

-- "19: worker is inside the other crew's row, after 13"
unfoldable pub unless_away : (reason : ℕ) (away : Bool) → ℕ
unless_away zero true = why.elsewhere
unless_away zero false = 0
unless_away (suc k) away = suc k

-- why a pick of worker w for crew c is refused by the counts alone; 0: it is taken
unfoldable pub crew_refusal : Roof → Two State → Crew → ℕ → ℕ
crew_refusal r s c w = unless_away (refusal (job_for r c) (own_of s c).made w) (is_away r s c w)

-- one step of worker w for crew c, and the state of that crew after it
unfoldable pub crew_step : Roof → Two State → Crew → ℕ → Outcome State
crew_step r s c w = step_if (crew_refusal r s c w) (own_of s c) w (next (job_for r c) (own_of s c).made w)

-- .. and both states
unfoldable pub for_both : Two State → Crew → Outcome State → Outcome (Two State)
for_both s c (moved t) = moved (put_for s c t)
for_both s c (halted k) = halted k

-- "18: pick names no crew, before 10"
unfoldable pub turn_for : Roof → Two State → (crew worker : ℕ) → Outcome (Two State)
turn_for r s zero w = for_both s crew0 (crew_step r s crew0 w)
turn_for r s (suc zero) w = for_both s crew1 (crew_step r s crew1 w)
turn_for r s (suc (suc k)) w = halted why.no_crew

-- "a pick byte is 16 × crew + worker"
unfoldable pub turn : Roof → Two State → (pick : ℕ) → Outcome (Two State)
turn r s b = turn_for r s (b / max_workers) (b % max_workers)

-- what a schedule for both comes to
abbrev pub turns : Roof → Two State → (schedule : List ℕ) → Passed (Two State)
turns r s bs = pass skips_none (turn r) s bs

-- the workers that picks name for a crew
unfoldable pub named_for : Crew → (schedule : List ℕ) → List ℕ
named_for c bs = map (λ b. b % max_workers) (filter (λ b. eqb (b / max_workers) (crew_number c)) bs)

-- "until then the other's ready set leaves it out"
unfoldable pub crew_ready : Roof → Two State → Crew → List ℕ
crew_ready r s c = filter (λ w. not (is_away r s c w)) (ready (job_for r c) (own_of s c).made)
