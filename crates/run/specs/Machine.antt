-- The machine: one step (document 01's pick) is one load or one store.
use Rattle.std.specs.Prelude.{Bool, true, false, ◌&&◌, cond, List, [], ◌∷◌, map, ℕ, zero, suc, ◌+◌, ◌^◌, ◌%◌, length, get_or, set, eqb, ltb, leb, ℤ, pos, ◌+ℤ◌}
use Rattle.base.specs.Lists.{range}
use Rattle.base.specs.Lists.{position_of}
use Rattle.base.specs.Integers.{fits64}
use Rattle.base.specs.Refusals as why
use Rattle.plan.specs.Sound.{max_workers}
use Rattle.run.specs.Job.{Job, workers}
use Rattle.run.specs.Updates.{Update, count, accesses, next, waits}
use Rattle.run.specs.State.{State}

-- why a step is refused by the counts alone, 10 before 12 before 13; 0: it is taken
unfoldable pub reason : (in_plan done waiting : Bool) → ℕ
reason false done waiting = why.no_worker
reason true true waiting = why.all_done
reason true false true = why.must_wait
reason true false false = 0

unfoldable pub refusal : Job → (made : List ℕ) → ℕ → ℕ
refusal j made w = reason (ltb w (workers j)) (leb (accesses j w) (count made w)) (waits j made w)

-- what a step comes to, on a machine with states of this kind
pub data Outcome (S : Type 0) : Type 0 where
  moved : S → Outcome S
  halted : (number : ℕ) → Outcome S

unfoldable pub onward : (made : List ℕ) → ℕ → List ℕ
onward made w = set made w (suc (count made w))

-- "Loading copies a sum to the worker's held number"
unfoldable pub load : State → ℕ → Update → State
load s w u = record { made = onward s.made w; held = set s.held w (get_or s.sums u.target (pos 0)); sums = s.sums }

unfoldable pub total : State → ℕ → Update → ℤ
total s w u = get_or s.held w (pos 0) +ℤ u.amount

-- "storing puts held number plus product and leaves the held number"
unfoldable pub store : State → ℕ → Update → State
store s w u = record { made = onward s.made w; held = s.held; sums = set s.sums u.target (total s w u) }

-- a load at an even count, a store at an odd one; "14: the sum to store passes 64 bits"
unfoldable pub access : (even fitting : Bool) → State → ℕ → Update → Outcome State
access true fitting s w u = moved (load s w u)
access false true s w u = moved (store s w u)
access false false s w u = halted why.overflow

unfoldable pub move : State → ℕ → Update → Outcome State
move s w u = access (eqb (count s.made w % 2) 0) (fits64 (total s w u)) s w u

unfoldable pub step_if : (reason : ℕ) → State → ℕ → Update → Outcome State
step_if zero s w u = move s w u
step_if (suc k) s w u = halted (suc k)

-- one step of worker w: "pick by pick 10, 12, 13, 14"
unfoldable pub step : Job → State → ℕ → Outcome State
step j s w = step_if (refusal j s.made w) s w (next j s.made w)

-- what a schedule (document 01's list of picks) comes to: the state, how many steps were taken, and the number that
-- ended it
pub record Stepped : Type 0 where
  pub state : State
  pub taken : ℕ
  pub number : ℕ

unfoldable pub one_more : Stepped → Stepped
one_more r = record { state = r.state; taken = suc r.taken; number = r.number }

unfoldable pub steps : Job → State → (schedule : List ℕ) → Stepped
steps j s [] = record { state = s; taken = 0; number = 0 }
steps j s (w ∷ ws) =
    elim (step j s w) [ moved t ↦ one_more (steps j t ws) | halted k ↦ record { state = s; taken = 0; number = k } ]

-- "a worker of the plan is in it whose pick neither 12 nor 13 would refuse": those below k, the last one first
unfoldable pub ready_below : Job → (made : List ℕ) → ℕ → List ℕ
ready_below j made zero = []
ready_below j made (suc w) = cond (eqb (refusal j made w) 0) (w ∷ ready_below j made w) (ready_below j made w)

unfoldable pub ready : Job → (made : List ℕ) → List ℕ
ready j made = ready_below j made (workers j)

-- "sixteen bits, bit 0 for worker 0"
unfoldable pub bits : List ℕ → ℕ
bits [] = 0
bits (w ∷ ws) = 2 ^ w + bits ws

-- every worker below k has made all its accesses
unfoldable pub all_made : Job → (made : List ℕ) → ℕ → Bool
all_made j made zero = true
all_made j made (suc w) = leb (accesses j w) (count made w) && all_made j made w

-- "The run is finished when all counts are all their workers' moves"
unfoldable pub over : Job → (made : List ℕ) → Bool
over j made = all_made j made (workers j)

-- "the sums in original order"
unfoldable pub original : Job → List ℤ → List ℤ
original j sums = map (λ i. get_or sums (position_of j.plan.order i) (pos 0)) (range 0 j.matrix.n)

-- no worker below k has a count past its accesses (a worker outside the plan has none)
unfoldable pub counts_fine : Job → (made : List ℕ) → ℕ → Bool
counts_fine j made zero = true
counts_fine j made (suc w) = leb (count made w) (accesses j w) && counts_fine j made w

-- not "11: list of sums not n long, or a worker's count past its moves"
unfoldable pub is_state : Job → State → Bool
is_state j s = eqb (length s.sums) j.matrix.n && counts_fine j s.made max_workers
