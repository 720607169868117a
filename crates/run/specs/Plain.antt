-- What the definitions over plan positions and over the tree of groups come to: the updates of a row one by one, and
-- the wait by the plan's records.
use Rattle.std.specs.Prelude.{◌≡◌, true, List, ℕ, suc, ◌+◌, ◌*◌, ◌/◌, ◌≤◌, ◌<◌, ◌^◌, length, get_or, ◌*ℤ◌}
use Rattle.base.specs.Lists.{is_in}
use Rattle.matrix.specs.Matrix.{entry, adjacent, displacement}
use Rattle.plan.specs.Groups.{Group, red, blue}
use Rattle.plan.specs.Depths.{group_at}
use Rattle.run.specs.Job.{Job, row_at, workers}
use Rattle.run.specs.Tree.{tree, leaves}
use Rattle.run.specs.Updates.{Update, later, row_updates, owner, up_to, updates, accesses, count, no_update, waits, leaf_by_leaf}

-- what the row at plan position p adds to the sum at t: the entry of the rows at positions p and q × a row's movement
unfoldable pub addition : Job → (p t q of : ℕ) → Update
addition j p t q of = record { row = p; target = t; amount = entry j.matrix (row_at j p) (row_at j q) *ℤ displacement j.displacements (row_at j of) }

-- the updates of the row at plan position p
pub record RowOrder (j : Job) (p : ℕ) : Type 0 where
  -- "each joined row later in plan order, by ascending plan position"
  pub joined : (q : ℕ) → is_in (later j p) q ≡ true → (p < q) × (q < j.matrix.n) × (adjacent j.matrix (row_at j p) (row_at j q) ≡ true)
  pub each : (q : ℕ) → p < q → q < j.matrix.n → adjacent j.matrix (row_at j p) (row_at j q) ≡ true → is_in (later j p) q ≡ true
  pub ascending : (i k : ℕ) → i < k → k < length (later j p) → get_or (later j p) i 0 < get_or (later j p) k 0
  -- "A row loads and stores its own sum, adding diagonal × own movement"
  pub first : get_or (row_updates j p) 0 no_update ≡ addition j p p p p
  -- "then for each joined row .. it loads and stores its own sum, adding their entry × the other's movement, then loads
  -- and stores the other's, adding the entry × own movement": updates 2 i + 1 and 2 i + 2
  pub own : (i : ℕ) → i < length (later j p) → let q = get_or (later j p) i 0 in get_or (row_updates j p) (suc (2 * i)) no_update ≡ addition j p p q q
  pub other : (i : ℕ) → i < length (later j p) → let q = get_or (later j p) i 0 in get_or (row_updates j p) (suc (suc (2 * i))) no_update ≡ addition j p q q p
  -- and no more
  pub size : length (row_updates j p) ≡ 1 + 2 * length (later j p)

-- the record at index i is that of a leaf: none after the whole's has it as its parent
abbrev pub IsLeaf : List Group → ℕ → Type 0
IsLeaf gs i = (k : ℕ) → 0 < k → k < length gs → (group_at gs k).parent ≡ i → ⊥

-- a group "lies in, or is" the one at index r: it is that one, or its parent lies in or is that one
pub data LiesIn (gs : List Group) (r : ℕ) : ℕ → Type 0 where
  itself : LiesIn gs r r
  by_parent : {i : ℕ} → 0 < i → i < length gs → LiesIn gs r (group_at gs i).parent → LiesIn gs r i

-- plan position q is of the group's stretch
abbrev pub InStretch : Group → ℕ → Type 0
InStretch g q = (g.start ≤ q) × (q < g.start + g.length)

-- "A worker waits if the leaf of its next move lies in, or is, a blue group one of whose red siblings has an unfinished
-- leaf": the indices of the three, and that they are as said
pub record MustWait (j : Job) (made : List ℕ) (w : ℕ) : Type 0 where
  pub blue_group : ℕ
  pub red_group : ℕ
  pub leaf : ℕ
  -- a blue group that has the row of the worker's next move; an update is two moves
  pub is_blue : (group_at j.plan.groups blue_group).colour ≡ blue
  pub has : InStretch (group_at j.plan.groups blue_group) (get_or (updates j w) (count made w / 2) no_update).row
  -- its red sibling
  pub is_red : (group_at j.plan.groups red_group).colour ≡ red
  pub parent : (group_at j.plan.groups red_group).parent ≡ (group_at j.plan.groups blue_group).parent
  -- a leaf in that
  pub inside : LiesIn j.plan.groups red_group leaf
  pub is_leaf : IsLeaf j.plan.groups leaf
  -- not "finished when its worker has made all moves up to its end"
  pub unfinished : let g = group_at j.plan.groups leaf in count made g.first < 2 * length (up_to j g.first (g.start + g.length))

pub record Plain (j : Job) : Type 0 where
  -- "A worker's moves are its leaves in order, row by row in plan order"
  pub leaf_order : (w : ℕ) → updates j w ≡ leaf_by_leaf j w (leaves (tree j.plan.groups))
  -- "a leaf, run by its first worker"
  pub run_by : (i p : ℕ) → i < length j.plan.groups → IsLeaf j.plan.groups i → InStretch (group_at j.plan.groups i) p → owner j p ≡ (group_at j.plan.groups i).first
  -- "all moves up to its end": a worker's updates in the rows before position e are its first ones
  pub up-to : (w e i : ℕ) → i < length (updates j w)
      → (i < length (up_to j w e) → (get_or (updates j w) i no_update).row < e) × (length (up_to j w e) ≤ i → e ≤ (get_or (updates j w) i no_update).row)
  -- the row's updates in their order
  pub row_order : (p : ℕ) → RowOrder j p
  -- who waits must wait, and who must wait waits
  pub no_sooner : (made : List ℕ) (w : ℕ) → waits j made w ≡ true → MustWait j made w
  pub no_later : (made : List ℕ) (w : ℕ) → MustWait j made w → waits j made w ≡ true
  -- "moves made (32 bits)": every count fits
  pub small : (w : ℕ) → w < workers j → accesses j w < 2 ^ 32
