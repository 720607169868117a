-- What the scans over loads of levels leave: for the contracts of src/lib.rt. qs are the loads of the levels that are
-- left.
use Rattle.std.specs.Prelude.{List, [], ◌∷◌, ℕ, ◌*◌, ◌-◌, ◌≤◌, ◌<◌, ◌^◌, drop}
use Rattle.base.specs.Lists.{best, distance}
use Rattle.plan.specs.Sound.{max_workers}
use Rattle.extents.specs.Extents.{Policy, End, ends_from}
use Rattle.extents.specs.declared.policy.Policy as code

-- the policy that a struct stands for
abbrev pub policy_of : code.Policy → Policy
policy_of r = record { reach = r.reach; p = r.p }

-- no group has more load: what the scans compute then has at most 32 bits
abbrev pub max_load : ℕ
max_load = 2 ^ 20

-- the end of k levels and every later one
abbrev pub ends_on : (k : ℕ) → List ℕ → List End
ends_on k qs = drop (k - 1) (ends_from 0 0 qs)

-- how many levels that end has, of some ends, whose load times x is nearest to y
unfoldable pub nearest_end : (x y : ℕ) → List End → ℕ
nearest_end x y [] = 0
nearest_end x y (e ∷ es) = (best (λ f. distance (f.load * x) y) e es).levels

-- the load of a group of w workers
pub record Scale (w R : ℕ) : Type 0 where
  pub some : 0 < R
  pub few : R ≤ max_load
  pub workers : w ≤ max_workers
