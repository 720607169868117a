-- What the passes over the flat records find for one worker: the last ends of its leaves, and the gates. A number is
-- known by what is below it.
use Rattle.std.specs.Prelude.{◌≡◌, ◌≢◌, Bool, false, cond, List, ℕ, suc, ◌+◌, ◌*◌, ◌≤◌, ◌<◌, max, eqb, leb, ltb, length, get_or, drop}
use Rattle.plan.specs.Groups.{Group, red, blue, records}
use Rattle.plan.specs.Sound.{max_workers, max_groups}
use Rattle.plan.specs.Code.Checks.{record_at, below_whole}
use Rattle.run.specs.Tree.{forest, red_open}
use Rattle.tables.specs.Code.Laid.{has_child}

-- ---- one record

-- the end of a leaf, if it is worker v's
abbrev pub own_end : (first v end : ℕ) → ℕ
own_end first v end = cond (eqb first v) end 0

-- the last end of a group: its own, if it is no parent, so a leaf, else that of those below it
abbrev pub last_if : (parent below own : ℕ) → ℕ
last_if parent below own = cond (eqb parent 0) own below

-- .. if it is red
abbrev pub red_last : (colour last : ℕ) → ℕ
red_last colour last = cond (eqb colour red) last 0

-- a group's gate: its parent's, or that of its red siblings if it is blue
abbrev pub gate_if : (above colour reds : ℕ) → ℕ
gate_if above colour reds = max above (cond (eqb colour blue) reds 0)

-- ---- all records

-- `end` has the end of every leaf
abbrev pub Ends : (count : ℕ) (groups ends : List ℕ) (end : Group → ℕ) → Type 0
Ends count groups ends end = (i : ℕ) → i < count → has_child i (drop (suc i) (records count groups)) ≡ false → end (record_at groups i) ≡ get_or ends i 0

-- a leaf that has no end of worker v's past t
abbrev pub over : (end : Group → ℕ) (v t : ℕ) → Group → Bool
over end v t g = leb (own_end g.first v (end g)) t

-- for each group the last end of worker v's in its red children
pub record RedEnds (count : ℕ) (groups ends : List ℕ) (v : ℕ) (reds : List ℕ) : Type 0 where
  pub long : length reds ≡ max_groups
  pub is : (end : Group → ℕ) → Ends count groups ends end → (t up : ℕ) → up < max_groups → ltb t (get_or reds up 0) ≡ red_open (over end v t) (forest up 1 (below_whole count groups))

-- for each of the first k groups its gate
pub record Gated (k : ℕ) (groups reds gates : List ℕ) : Type 0 where
  pub long : length gates ≡ max_groups
  pub root : get_or gates 0 0 ≡ 0
  pub is : (i : ℕ) → 1 ≤ i → i < k → get_or gates i 0 ≡ gate_if (get_or gates (record_at groups i).parent 0) (record_at groups i).colour (get_or reds (record_at groups i).parent 0)

-- the gates for worker v
pub record Gates (count : ℕ) (groups ends : List ℕ) (v : ℕ) (gates : List ℕ) : Type 0 where
  pub reds : List ℕ
  pub ended : RedEnds count groups ends v reds
  pub gated : Gated count groups reds gates

-- ---- the gates of all workers in one table, sixteen numbers a group

-- column v now has these gates, the others what they had
pub record Column (v k : ℕ) (gates table new : List ℕ) : Type 0 where
  pub long : length new ≡ max_groups * max_workers
  pub here : (i : ℕ) → i < k → get_or new (i * max_workers + v) 0 ≡ get_or gates i 0
  pub others : (i w : ℕ) → w < max_workers → w ≢ v → get_or new (i * max_workers + w) 0 ≡ get_or table (i * max_workers + w) 0

-- the gates of the workers below k
pub record AllGates (k count : ℕ) (groups ends table : List ℕ) : Type 0 where
  pub long : length table ≡ max_groups * max_workers
  pub gates : ℕ → List ℕ
  pub are : (v : ℕ) → v < k → Gates count groups ends v (gates v)
  pub is : (i v : ℕ) → i < max_groups → v < k → get_or table (i * max_workers + v) 0 ≡ get_or (gates v) i 0
