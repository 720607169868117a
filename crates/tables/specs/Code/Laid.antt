-- The tables that a call makes of an accepted job, once, before its first step: every worker's updates, and where its
-- leaves end.
use Rattle.std.specs.Prelude.{◌≡◌, Bool, true, false, ◌||◌, List, [], ◌∷◌, ℕ, suc, ◌+◌, ◌*◌, ◌-◌, ◌≤◌, ◌<◌, eqb, length, get_or, drop}
use Rattle.base.specs.Lists.{sum_below}
use Rattle.matrix.specs.Limits.{max_rows, max_entries}
use Rattle.plan.specs.Groups.{Group, of_fields}
use Rattle.plan.specs.Sound.{max_workers, max_groups}
use Rattle.run.specs.Job.{Job}
use Rattle.run.specs.Tree.{tree, holds, blocked}
use Rattle.run.specs.Updates.{Update, row_updates, owner, up_to, updates, finished, no_update}
use Rattle.tables.specs.declared.Tables.{Tables}

-- ---- leaves

-- the group at index up has a child
unfoldable pub has_child : ℕ → List Group → Bool
has_child up [] = false
has_child up (g ∷ gs) = eqb g.parent up || has_child up gs

-- record number i of the plan
abbrev pub group_at : Job → ℕ → Group
group_at j i = get_or j.plan.groups i (of_fields [])

-- record number i is a leaf: none of the records after the whole is its child
pub record Leaf (j : Job) (i : ℕ) : Type 0 where
  pub inside : i < length j.plan.groups
  pub childless : has_child i (drop 1 j.plan.groups) ≡ false

-- record i is the leaf that holds position q
pub record LeafOf (j : Job) (i q : ℕ) : Type 0 where
  pub leaf : Leaf j i
  pub held : holds (group_at j i) q ≡ true

-- the access of its worker that ends the leaf at i
abbrev pub end_of : Job → ℕ → ℕ
end_of j i = 2 * length (up_to j (group_at j i).first ((group_at j i).start + (group_at j i).length))

-- ---- updates

-- one for each row, and two for each pair of adjacent rows
abbrev pub max_updates : ℕ
max_updates = max_rows + 2 * max_entries

-- update number k of worker w
abbrev pub update_at : Job → (w k : ℕ) → Update
update_at j w k = get_or (updates j w) k no_update

-- the place of worker w's first update: after those of the workers before it
abbrev pub first_of : Job → ℕ → ℕ
first_of j w = sum_below (λ v. length (updates j v)) w

-- .. of its first update in the rows from position e on
abbrev pub next_of : Job → (w e : ℕ) → ℕ
next_of j w e = first_of j w + length (up_to j w e)

-- .. of the first update of the row at p
abbrev pub begin_of : Job → ℕ → ℕ
begin_of j p = next_of j (owner j p) p

-- worker w's updates stand from place first[w] on and before first[w + 1]
pub record Counted (j : Job) (first : List ℕ) : Type 0 where
  pub long : length first ≡ suc max_workers
  pub is : (w : ℕ) → w ≤ max_workers → get_or first w 0 ≡ first_of j w

-- how many updates worker w has by these
abbrev pub updates_in : (first : List ℕ) → ℕ → ℕ
updates_in first w = get_or first (w + 1) 0 - get_or first w 0

-- The updates of the row at p begin at place begins[p], each of their places has p in row, and leaves[p] is the record
-- number of its leaf. A leaf i ends at access ends[i] of its worker.
pub record Laid (j : Job) (first row begins leaves ends : List ℕ) : Type 0 where
  pub counted : Counted j first
  pub begins_long : length begins ≡ max_rows
  pub begun : (p : ℕ) → p < j.matrix.n → get_or begins p 0 ≡ begin_of j p
  pub rows : (p c : ℕ) → p < j.matrix.n → c < length (row_updates j p) → get_or row (begin_of j p + c) 0 ≡ p
  pub leaf : (p : ℕ) → p < j.matrix.n → LeafOf j (get_or leaves p 0) p
  pub ended : (i : ℕ) → Leaf j i → get_or ends i 0 ≡ end_of j i

-- what the code needs whatever the job: every worker's updates stand inside
pub record Rising (first : List ℕ) : Type 0 where
  pub rises : (w : ℕ) → w < max_workers → get_or first w 0 ≤ get_or first (w + 1) 0
  pub few : (w : ℕ) → w ≤ max_workers → get_or first w 0 ≤ max_updates

-- .. and every row is one of n, every leaf a record
pub record Bounded (n : ℕ) (first row leaves : List ℕ) : Type 0 where
  pub rising : Rising first
  pub rows_few : n ≤ max_rows
  pub row_low : (k : ℕ) → get_or row k 0 < n
  pub leaf_low : (p : ℕ) → get_or leaves p 0 < max_groups

-- .. by the tables that the code holds
abbrev pub LaidIn : Job → Tables → Type 0
LaidIn j t = Laid j t.first.now t.row.now t.begins.now t.leaves.now t.ends.now

abbrev pub BoundedIn : ℕ → Tables → Type 0
BoundedIn n t = Bounded n t.first.now t.row.now t.leaves.now

-- ---- waits

-- for each leaf whether a worker whose next row lies in it waits
pub record Waits (j : Job) (made : List ℕ) (blocks : List Bool) : Type 0 where
  pub long : length blocks ≡ max_groups
  pub is : (i q : ℕ) → Leaf j i → q < j.matrix.n → holds (group_at j i) q ≡ true → get_or blocks i false ≡ blocked (finished j made) q (tree j.plan.groups) (tree j.plan.groups)
