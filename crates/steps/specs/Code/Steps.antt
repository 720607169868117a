-- A step by the tables that a call makes, and what the code makes of it.
use Rattle.std.specs.Prelude.{◌≡◌, ◌≢◌, Bool, false, Result, Ok, Err, List, ℕ, zero, suc, ◌+◌, ◌*◌, ◌-◌, ◌/◌, ◌≤◌, ◌<◌, leb, ltb, ℤ, length, get_or}
use Rattle.base.specs.Verdicts.{number_of}
use Rattle.base.specs.declared.Kind.{Kind}
use Rattle.run.specs.Job.{Job}
use Rattle.run.specs.Updates.{Update, count, accesses, next}
use Rattle.run.specs.Machine.{reason, Outcome, moved, halted, onward, step_if}
use Rattle.run.specs.State.{State}
use Rattle.plan.specs.Sound.{max_workers}
use Rattle.tables.specs.Code.Laid.{max_updates, updates_in, Bounded}
use Rattle.tables.specs.declared.Tables.{Tables}
use Rattle.tables.specs.declared.Entries.{Entries}
use Rattle.steps.specs.Code.Updates.{entry_place, update_in}

abbrev pub state_with : (made : List ℕ) (held sums : List ℤ) → State
state_with made held sums = record { made = made; held = held; sums = sums }

-- ---- a step by the tables

-- the place of the update of worker w's next access
abbrev pub place_next : (first made : List ℕ) → ℕ → ℕ
place_next first made w = get_or first w 0 + count made w / 2

-- the position of the row that makes it
abbrev pub row_next : (first row made : List ℕ) → ℕ → ℕ
row_next first row made w = get_or row (place_next first made w) 0

-- its number among the row's
abbrev pub number_next : (first row begins made : List ℕ) → ℕ → ℕ
number_next first row begins made w = place_next first made w - get_or begins (row_next first row made w) 0

-- the update
abbrev pub update_next : (first row begins parts : List ℕ) (displaced : List ℤ) (at : List ℕ) (beside : List ℤ) (made : List ℕ) → ℕ → Update
update_next first row begins parts displaced at beside made w = update_in parts displaced at beside (row_next first row made w) (number_next first row begins made w)

-- why a step is refused, 10 before 12 before 13; 0: it is taken
abbrev pub reason_at : (workers : ℕ) (first row leaves : List ℕ) (blocks : List Bool) (made : List ℕ) → ℕ → ℕ
reason_at workers first row leaves blocks made w =
    reason (ltb w workers) (leb (2 * updates_in first w) (count made w)) (get_or blocks (get_or leaves (row_next first row made w) 0) false)

-- .. by the tables that the code holds
abbrev pub reason_by : (workers : ℕ) → Tables → (blocks : List Bool) (made : List ℕ) → ℕ → ℕ
reason_by workers t blocks = reason_at workers t.first.now t.row.now t.leaves.now blocks

abbrev pub update_by : Tables → Entries → (displaced : List ℤ) (made : List ℕ) → ℕ → Update
update_by t e displaced = update_next t.first.now t.row.now t.begins.now e.parts.now displaced e.at.now e.beside.now

-- ---- what the code needs for a step

-- to know a step's row: every worker's updates stand inside the table, those of a row from where they begin on
pub record RowTables (n : ℕ) (first row begins leaves : List ℕ) : Type 0 where
  pub bounded : Bounded n first row leaves
  pub begun : (w k : ℕ) → w < max_workers → k < updates_in first w → get_or begins (get_or row (get_or first w 0 + k) 0) 0 ≤ get_or first w 0 + k

-- .. and its update: their entries stand inside the tables of these, and are of two of n rows
pub record StepTables (n : ℕ) (first row begins parts leaves at : List ℕ) (beside : List ℤ) : Type 0 where
  pub bounded : Bounded n first row leaves
  pub at_low : (k : ℕ) → get_or at k 0 < n
  pub long : length beside ≡ length at
  pub room : length at ≤ max_updates
  pub begun : (w k : ℕ) → w < max_workers → k < updates_in first w → get_or begins (get_or row (get_or first w 0 + k) 0) 0 ≤ get_or first w 0 + k
  pub inside : (w k : ℕ) → w < max_workers → k < updates_in first w
      → entry_place parts (get_or row (get_or first w 0 + k) 0) (get_or first w 0 + k - get_or begins (get_or row (get_or first w 0 + k) 0) 0) < length at

-- .. and for the updates to be job j's: they are, at all counts that fewer than so many picks can lead to from these
pub record UpdatesAhead (j : Job) (made : List ℕ) (picks : ℕ) (first row begins parts : List ℕ) (displaced : List ℤ) (at : List ℕ) (beside : List ℤ) : Type 0 where
  pub is : (new : List ℕ) (w : ℕ) → w < max_workers → count made w ≤ count new w → count new w < count made w + picks → count new w < accesses j w
      → update_next first row begins parts displaced at beside new w ≡ next j new w

-- .. by the tables that the code holds
abbrev pub RowsBy : (n : ℕ) → Tables → Type 0
RowsBy n t = RowTables n t.first.now t.row.now t.begins.now t.leaves.now

abbrev pub StepsBy : (n : ℕ) → Tables → Entries → Type 0
StepsBy n t e = StepTables n t.first.now t.row.now t.begins.now e.parts.now t.leaves.now e.at.now e.beside.now

abbrev pub AheadBy : Job → (made : List ℕ) (picks : ℕ) → Tables → Entries → (displaced : List ℤ) → Type 0
AheadBy j made picks t e displaced = UpdatesAhead j made picks t.first.now t.row.now t.begins.now e.parts.now displaced e.at.now e.beside.now

-- ---- what it makes of one

-- the number of the code's answer: 0, or why it is refused
abbrev pub told : Result (Unit {0}) Kind → ℕ
told (Ok _) = 0
told (Err k) = number_of k

-- a pick's answer, 0 or why it is refused, and the state after it, as the machine's
unfoldable pub outcome_of : (number : ℕ) → State → Outcome State
outcome_of zero t = moved t
outcome_of (suc k) t = halted (suc k)

-- A pick of worker w with update u, refused for this reason or none: its answer, and the state after it, the old one
-- where it is refused, else with one access more
pub record PickMade (why : ℕ) (s : State) (w : ℕ) (u : Update) (number : ℕ) (t : State) : Type 0 where
  pub is : outcome_of number t ≡ step_if why s w u
  pub kept : number ≢ 0 → t ≡ s
  pub counted : number ≡ 0 → t.made ≡ onward s.made w
