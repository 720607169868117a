-- What the code needs of a plan's flat records to find out who waits, and what its tables hold.
use Rattle.std.specs.Prelude.{◌≡◌, ◌⊎◌, Bool, false, ◌&&◌, ◌||◌, cond, List, ℕ, suc, ◌*◌, ◌≤◌, ◌<◌, eqb, leb, ltb, length, get_or, drop}
use Rattle.plan.specs.Groups.{Group, red, blue, width, records}
use Rattle.plan.specs.Sound.{max_workers, max_groups}
use Rattle.plan.specs.Code.Checks.{record_at, below_whole}
use Rattle.run.specs.Tree.{forest, red_open}
use Rattle.tables.specs.Code.Laid.{has_child}

-- what the code needs of the records, whatever the job
pub record Recorded (count : ℕ) (groups : List ℕ) : Type 0 where
  pub long : width * count ≤ length groups
  pub some : 1 ≤ count
  pub few : count ≤ max_groups
  pub parents : (i : ℕ) → 1 ≤ i → i < count → (record_at groups i).parent < i
  pub firsts : (i : ℕ) → i < count → (record_at groups i).first < max_workers

-- fin says of every leaf whether its worker's count has reached its end
abbrev pub Ended : (count : ℕ) (groups ends made : List ℕ) (fin : Group → Bool) → Type 0
Ended count groups ends made fin =
    (i : ℕ) → i < count → has_child i (drop (suc i) (records count groups)) ≡ false → fin (record_at groups i) ≡ leb (get_or ends i 0) (get_or made (record_at groups i).first 0)

-- ---- one record

-- a parent is open if a group below it is, a leaf if the count is below its end
abbrev pub open_if : (is_parent below : Bool) (made end : ℕ) → Bool
open_if is_parent below made end = cond is_parent below (ltb made end)

-- .. and red
abbrev pub open_red : (colour : ℕ) (opened : Bool) → Bool
open_red colour opened = eqb colour red && opened

-- a group is blocked if its parent is, or if it is blue and has an open red sibling
abbrev pub blocked_if : (above : Bool) (colour : ℕ) (reds : Bool) → Bool
blocked_if above colour reds = above || (eqb colour blue && reds)

-- an end past the count that comes before the stop is the stop
abbrev pub next_end : (made end stop : ℕ) → ℕ
next_end made end stop = cond (ltb made end && ltb end stop) end stop

-- ---- all records

-- for each group whether it has a red child with an unfinished leaf
pub record OpenReds (count : ℕ) (groups ends made : List ℕ) (reds : List Bool) : Type 0 where
  pub long : length reds ≡ max_groups
  pub is : (fin : Group → Bool) → Ended count groups ends made fin → (up : ℕ) → up < max_groups → get_or reds up false ≡ red_open fin (forest up 1 (below_whole count groups))

-- for each of the first k groups whether it is blocked
pub record Passed (k : ℕ) (groups : List ℕ) (reds blocks : List Bool) : Type 0 where
  pub long : length blocks ≡ max_groups
  pub root : get_or blocks 0 false ≡ false
  pub is : (i : ℕ) → 1 ≤ i → i < k → get_or blocks i false ≡ blocked_if (get_or blocks (record_at groups i).parent false) (record_at groups i).colour (get_or reds (record_at groups i).parent false)

-- the blocked groups by these counts
pub record Blocks (count : ℕ) (groups ends made : List ℕ) (blocks : List Bool) : Type 0 where
  pub reds : List Bool
  pub opened : OpenReds count groups ends made reds
  pub passed : Passed count groups reds blocks

-- for each worker a count up to which it finishes no leaf of the first k records
pub record Ahead (k : ℕ) (groups ends made stops : List ℕ) : Type 0 where
  pub long : length stops ≡ max_workers
  pub is : (i : ℕ) → i < k → (get_or ends i 0 ≤ get_or made (record_at groups i).first 0) ⊎ (get_or stops (record_at groups i).first 0 ≤ get_or ends i 0)

-- these groups are blocked by these counts, and stay so until a count reaches its stop
pub record Current (count : ℕ) (groups ends made : List ℕ) (blocks : List Bool) (stops : List ℕ) : Type 0 where
  pub long : length made ≡ max_workers
  pub blocked : Blocks count groups ends made blocks
  pub ahead : Ahead count groups ends made stops
