-- What the check of a plan's shape goes through: its order, how its groups nest, how they tile.
use Rattle.std.specs.Prelude.{◌≡◌, Bool, true, false, List, [], ◌∷◌, ℕ, zero, suc, ◌*◌, ◌≤◌, ◌<◌, length, get_or, take, drop}
use Rattle.std.proofs.Common.{Option, Some, None}
use Rattle.base.specs.Lists.{is_in}
use Rattle.matrix.specs.Limits.{max_rows}
use Rattle.plan.specs.Groups.{width, records}
use Rattle.plan.specs.Sound.{max_groups, each_once, children}
use Rattle.plan.specs.declared.lists.Plan.{Plan}
use Rattle.plan.specs.Code.Checks.{record_at, stands_depth_first}

-- the marks of n rows say which of them are in the list
pub record Seen (n : ℕ) (xs : List ℕ) (marks : List Bool) : Type 0 where
  pub long : length marks ≡ max_rows
  pub is : (v : ℕ) → v < n → get_or marks v false ≡ is_in xs v

-- the first t numbers of an array, the last first: a record's index and its ancestors', up to the whole
unfoldable pub path_of : List ℕ → (t : ℕ) → List ℕ
path_of path zero = []
path_of path (suc t) = get_or path t 0 ∷ path_of path t

-- the index of a child; count if there is none
abbrev pub index_of : (count : ℕ) → Option ℕ → ℕ
index_of count None = count
index_of count (Some i) = i

-- r is the index of the next of k's children among the records from i on, if there is one
pub record NextChild (count : ℕ) (ns : List ℕ) (k i : ℕ) (r : Option ℕ) : Type 0 where
  pub from_on : i ≤ index_of count r
  pub within : index_of count r ≤ count
  pub same : children k (drop i (records count ns)) ≡ children k (drop (index_of count r) (records count ns))
  pub child : (c : ℕ) → r ≡ Some c → (c < count) × ((record_at ns c).parent ≡ k)

-- the first n of the order are each row once, and the records, which are not too many, stand depth first
pub record PlanLists (n : ℕ) (p : Plan) : Type 0 where
  pub order_long : n ≤ length p.order.now
  pub once : each_once n (take n p.order.now) ≡ true
  pub groups_long : width * p.count ≤ length p.groups.now
  pub few : p.count ≤ max_groups
  pub nested : stands_depth_first p.count p.groups.now ≡ true
