-- What is written into a list from a place on.
use Rattle.std.specs.Prelude.{◌≡◌, List, map, ℕ, ◌+◌, ◌*◌, ◌-◌, ◌/◌, ◌%◌, ◌≤◌, ◌<◌, ℤ, length, get_or}
use Rattle.base.specs.Lists.{range}
use Rattle.matrix.specs.Limits.{max_rows}
use Rattle.plan.specs.Sound.{max_workers}
use Rattle.run.specs.Updates.{Update}
use Rattle.tables.specs.Code.Laid.{max_updates}
use Rattle.steps.specs.Code.Updates.{entry_place, update_in}

-- number k of the gates of n rows, by the leaf of each row and the table of all groups' gates
abbrev pub gate_number : (leaves table : List ℕ) → ℕ → ℕ
gate_number leaves table k = get_or table (get_or leaves (k / max_workers) 0 * max_workers + k % max_workers) 0

abbrev pub gate_numbers : (n : ℕ) (leaves table : List ℕ) → List ℕ
gate_numbers n leaves table = map (gate_number leaves table) (range 0 (n * max_workers))

-- update number k of all workers, by the tables of a job
abbrev pub update_number : (row begins parts : List ℕ) (displaced : List ℤ) (at : List ℕ) (beside : List ℤ) → ℕ → Update
update_number row begins parts displaced at beside k = update_in parts displaced at beside (get_or row k 0) (k - get_or begins (get_or row k 0) 0)

abbrev pub update_numbers : (count : ℕ) (row begins parts : List ℕ) (displaced : List ℤ) (at : List ℕ) (beside : List ℤ) → List Update
update_numbers count row begins parts displaced at beside = map (update_number row begins parts displaced at beside) (range 0 count)

-- what the code needs to read so many, whatever the job: each is of two of n rows, and stands inside
pub record Legible (n count : ℕ) (row begins parts at : List ℕ) (beside : List ℤ) : Type 0 where
  pub few : n ≤ max_rows
  pub at_low : (k : ℕ) → get_or at k 0 < n
  pub long : length beside ≡ length at
  pub room : length at ≤ max_updates
  pub row_low : (k : ℕ) → get_or row k 0 < n
  pub begun : (k : ℕ) → k < count → get_or begins (get_or row k 0) 0 ≤ k
  pub inside : (k : ℕ) → k < count → entry_place parts (get_or row k 0) (k - get_or begins (get_or row k 0) 0) < length at
