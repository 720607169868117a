-- Plans in lent lists: for the contracts of the planners.
use Rattle.std.specs.Prelude.{◌≡◌, List, ◌++◌, ℕ, ◌+◌, ◌*◌, length, take}
use Rattle.plan.specs.Groups.{Plan, width, flat}

-- A stretch and the records after a planner: the plan's order, and its groups from an index on, after the records
-- before it. count: the index past them
pub record Holds (o : Plan) (index : ℕ) (before order records : List ℕ) (count : ℕ) : Type 0 where
  pub order_is : order ≡ o.order
  pub count_is : count ≡ index + length o.groups
  pub records_are : take (width * count) records ≡ take (width * index) before ++ flat o.groups
