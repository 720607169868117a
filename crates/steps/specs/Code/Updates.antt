-- The updates of a row by the upper triangle of the matrix in plan order: number 0 is the row's own, numbers 2 c - 1
-- and 2 c are those with the c-th later row that is adjacent to it.
use Rattle.std.specs.Prelude.{cond, List, ◌∷◌, ◌≡◌, ℕ, ◌+◌, ◌/◌, ◌%◌, ◌≤◌, ◌<◌, eqb, ℤ, pos, ◌*ℤ◌, length, get_or}
use Rattle.matrix.specs.Limits.{max_rows}
use Rattle.run.specs.Job.{Job}
use Rattle.run.specs.Updates.{Update, displacement_at, later}
use Rattle.tables.specs.Code.Laid.{max_updates}
use Rattle.upper.specs.Code.Upper.{Placed}

-- a at even numbers k, b at odd ones
abbrev pub by_turns : (k a b : ℕ) → ℕ
by_turns k a b = cond (eqb (k % 2) 0) a b

-- where update number k of the row at p has its entry, beside the other row's position, if the row's part begins there
abbrev pub entry_place : (parts : List ℕ) (p k : ℕ) → ℕ
entry_place parts p k = get_or parts p 0 + (k + 1) / 2

-- the position of its sum: the other row's, then the row's own
abbrev pub target_in : (parts at : List ℕ) (p k : ℕ) → ℕ
target_in parts at p k = by_turns k (get_or at (entry_place parts p k) 0) p

-- what it adds: the entry times the displacement of the row whose sum it is not
abbrev pub amount_in : (parts : List ℕ) (displaced : List ℤ) (at : List ℕ) (beside : List ℤ) (p k : ℕ) → ℤ
amount_in parts displaced at beside p k = get_or beside (entry_place parts p k) (pos 0) *ℤ get_or displaced (by_turns k p (get_or at (entry_place parts p k) 0)) (pos 0)

-- the update
abbrev pub update_in : (parts : List ℕ) (displaced : List ℤ) (at : List ℕ) (beside : List ℤ) (p k : ℕ) → Update
update_in parts displaced at beside p k = record { row = p; target = target_in parts at p k; amount = amount_in parts displaced at beside p k }

-- what the code needs to read it, whatever the job, if there are n rows: rows of those, and a place inside
pub record Readable (n : ℕ) (parts at : List ℕ) (beside : List ℤ) (p k : ℕ) : Type 0 where
  pub few : n ≤ max_rows
  pub at_low : (c : ℕ) → get_or at c 0 < n
  pub row_low : p < n
  pub inside : entry_place parts p k < length at
  pub long : length beside ≡ length at
  pub room : length at ≤ max_updates

-- job j's displacements in plan order, and its upper triangle
pub record Triangle (j : Job) (parts : List ℕ) (displaced : List ℤ) (at : List ℕ) (beside : List ℤ) : Type 0 where
  pub displacements : (p : ℕ) → p < j.matrix.n → get_or displaced p (pos 0) ≡ displacement_at j p
  pub next : List ℕ
  pub placed : Placed j.matrix j.plan.order parts (λ p. p ∷ later j p) next at beside
  pub room : (p : ℕ) → p < j.matrix.n → get_or parts p 0 + length (p ∷ later j p) ≤ max_updates
