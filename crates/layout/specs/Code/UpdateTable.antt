-- What the tables of updates hold while they are made: the updates of each worker after those of the workers before it,
-- leaf by leaf.
use Rattle.std.specs.Prelude.{◌≡◌, cond, List, ℕ, zero, suc, ◌+◌, ◌*◌, ◌≤◌, ◌<◌, length, get_or, ℤ}
use Rattle.matrix.specs.Limits.{max_rows}
use Rattle.matrix.specs.Matrix.{matrix_of}
use Rattle.plan.specs.Groups.{width, records}
use Rattle.plan.specs.Sound.{max_workers, max_groups}
use Rattle.plan.specs.Code.Checks.{record_at, below_whole}
use Rattle.run.specs.Job.{Job, job_of, Accepted}
use Rattle.run.specs.Updates.{later, row_updates, owner, up_to}
use Rattle.tables.specs.Code.Laid.{has_child, Leaf, LeafOf, end_of, max_updates, next_of, begin_of}

-- ---- what they are made of

-- the job in lent lists is accepted, and they hold all of it
pub record Given (n : ℕ) (starts columns : List ℕ) (values displacements : List ℤ) (order groups : List ℕ) (count : ℕ) : Type 0 where
  pub accepted : Accepted (job_of (matrix_of n starts columns values) displacements order groups count)
  pub order_long : n ≤ length order
  pub groups_long : width * count ≤ length groups

-- an accepted job, and for each position how many entries its row has in the upper triangle: its diagonal one, and
-- those of the later adjacent rows
pub record Sized (j : Job) (sizes : List ℕ) : Type 0 where
  pub accepted : Accepted j
  pub is : (p : ℕ) → p < j.matrix.n → get_or sizes p 0 ≡ suc (length (later j p))

-- .. and its records
pub record Planned (j : Job) (groups : List ℕ) (count : ℕ) (sizes : List ℕ) : Type 0 where
  pub sized : Sized j sizes
  pub groups_are : j.plan.groups ≡ records count groups
  pub groups_long : width * count ≤ length groups

-- the position that the leaves before record i reach
unfoldable pub reached : (count : ℕ) (groups : List ℕ) → ℕ → ℕ
reached count groups zero = 0
reached count groups (suc i) = cond (has_child i (below_whole count groups)) (reached count groups i) (reached count groups i + (record_at groups i).length)

-- the rows from position s on and before e are those of the leaf i, and worker w's
pub record Stretch (j : Job) (i w s e : ℕ) : Type 0 where
  pub rises : s ≤ e
  pub inside : e ≤ j.matrix.n
  pub worker : w < max_workers
  pub record_low : i < max_groups
  pub mine : (p : ℕ) → s ≤ p → p < e → owner j p ≡ w
  pub of : (p : ℕ) → s ≤ p → p < e → LeafOf j i p

-- ---- what they hold

-- how many updates each worker has in the rows before position e, at the place after its own
pub record Numbers (j : Job) (e : ℕ) (first : List ℕ) : Type 0 where
  pub long : length first ≡ suc max_workers
  pub none : get_or first 0 0 ≡ 0
  pub is : (w : ℕ) → w < max_workers → get_or first (w + 1) 0 ≡ length (up_to j w e)

-- places from a on and before b now have p, the others what they had
pub record Put (p a b : ℕ) (row row' : List ℕ) : Type 0 where
  pub long : length row' ≡ length row
  pub before : (k : ℕ) → k < a → get_or row' k 0 ≡ get_or row k 0
  pub here : (k : ℕ) → a ≤ k → k < b → get_or row' k 0 ≡ p
  pub after : (k : ℕ) → b ≤ k → get_or row' k 0 ≡ get_or row k 0

-- the rows before position e: where their updates begin, their places, and their leaves
pub record Filled (j : Job) (e : ℕ) (row begins leaves : List ℕ) : Type 0 where
  pub row_long : length row ≡ max_updates
  pub begins_long : length begins ≡ max_rows
  pub leaves_long : length leaves ≡ max_rows
  pub begun : (p : ℕ) → p < e → get_or begins p 0 ≡ begin_of j p
  pub rows : (p c : ℕ) → p < e → c < length (row_updates j p) → get_or row (begin_of j p + c) 0 ≡ p
  pub leaf : (p : ℕ) → p < e → LeafOf j (get_or leaves p 0) p
  pub row_low : (k : ℕ) → get_or row k 0 < j.matrix.n
  pub leaf_low : (p : ℕ) → get_or leaves p 0 < max_groups

-- .. the next place of each worker, and the ends of the leaves before record i
pub record Walked (j : Job) (e i : ℕ) (next row begins leaves ends : List ℕ) : Type 0 where
  pub filled : Filled j e row begins leaves
  pub next_long : length next ≡ suc max_workers
  pub nexts : (w : ℕ) → w < max_workers → get_or next w 0 ≡ next_of j w e
  pub ends_long : length ends ≡ max_groups
  pub ended : (k : ℕ) → Leaf j k → k < i → get_or ends k 0 ≡ end_of j k

-- tables to write them into: room for all, and nothing that is no row or no record
pub record Blank (n : ℕ) (row begins leaves ends : List ℕ) : Type 0 where
  pub row_long : length row ≡ max_updates
  pub begins_long : length begins ≡ max_rows
  pub leaves_long : length leaves ≡ max_rows
  pub ends_long : length ends ≡ max_groups
  pub row_low : (k : ℕ) → get_or row k 0 < n
  pub leaf_low : (q : ℕ) → get_or leaves q 0 < max_groups
