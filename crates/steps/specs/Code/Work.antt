-- A step by the tables that the code holds: why it is refused, its update, and the updates at hand.
use Rattle.std.specs.Prelude.{Bool, List, ℕ, ℤ}
use Rattle.run.specs.Updates.{Update}
use Rattle.steps.specs.declared.course.Course.{Course}
use Rattle.steps.specs.declared.course.Work.{Work}
use Rattle.steps.specs.Code.Steps.{reason_by, update_by}
use Rattle.steps.specs.Code.AtHand.{AtHand, Entered}

-- why a step is refused, of so many workers
abbrev pub reason_in : (workers : ℕ) → Course → (blocks : List Bool) (made : List ℕ) → ℕ → ℕ
reason_in workers c = reason_by workers c.tables

-- .. of the plan's
abbrev pub cause_in : Course → (blocks : List Bool) (made : List ℕ) → ℕ → ℕ
cause_in c = reason_in c.workers c

-- the update of a worker's next access
abbrev pub update_in_work : Work → (made : List ℕ) → ℕ → Update
update_in_work k = update_by k.course.tables k.entries k.displaced.now

-- these updates are at hand
abbrev pub HandsBy : Work → (blocks : List Bool) (made targets : List ℕ) (adds : List ℤ) → Type 0
HandsBy k blocks = AtHand (cause_in k.course blocks) (update_in_work k)

-- .. and worker w's next one, if nothing refuses its step
abbrev pub EnteredBy : Work → (blocks : List Bool) (made : List ℕ) (w number : ℕ) (targets : List ℕ) (adds : List ℤ) → Type 0
EnteredBy k blocks = Entered (cause_in k.course blocks) (update_in_work k)
