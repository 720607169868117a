-- Who is inside a row, by the tables that a call makes.
use Rattle.std.specs.Prelude.{Bool, ◌&&◌, List, ℕ, ◌+◌, ◌*◌, ltb, get_or}
use Rattle.run.specs.Updates.{count}
use Rattle.plan.specs.Sound.{max_workers}
use Rattle.tables.specs.Code.Laid.{updates_in}
use Rattle.steps.specs.declared.course.Course.{Course}
use Rattle.steps.specs.Code.Steps.{row_next, reason_at}
use Rattle.crews.specs.Crews.{unless_away}

-- worker w has an access left, and has made one in the row of that access
abbrev pub inside_at : (first row begins made : List ℕ) → ℕ → Bool
inside_at first row begins made w = ltb (count made w) (2 * updates_in first w) && ltb (2 * get_or begins (row_next first row made w) 0) (2 * get_or first w 0 + count made w)

-- why a pick of a worker of the plan is refused, for a crew whose groups these blocks block, if the other made so many
abbrev pub cause_at : (first row begins leaves : List ℕ) (blocks : List Bool) (other made : List ℕ) → ℕ → ℕ
cause_at first row begins leaves blocks other made w = unless_away (reason_at max_workers first row leaves blocks made w) (inside_at first row begins other w)

-- .. by the tables that the code holds
abbrev pub inside_in : Course → (made : List ℕ) → ℕ → Bool
inside_in c = inside_at c.tables.first.now c.tables.row.now c.tables.begins.now

abbrev pub cause_in : Course → (blocks : List Bool) (other made : List ℕ) → ℕ → ℕ
cause_in c = cause_at c.tables.first.now c.tables.row.now c.tables.begins.now c.tables.leaves.now
