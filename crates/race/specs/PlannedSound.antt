-- "The planner's plans at k are sound at k, by one argument for all four distances": for every matrix, 1 to 16 workers,
-- p from 50 to 99 and k from 1 to 4; they never need more than 481 of the 512 records. So are the plans that its call
-- leaves in lent lists.
use Rattle.std.specs.Prelude.{◌≡◌, true, List, ℕ, ◌*◌, ◌≤◌, length}
use Rattle.base.specs.Replies.{accepted, lent}
use Rattle.matrix.specs.Matrix.{Matrix, is_matrix}
use Rattle.plan.specs.Groups.{width, flat}
use Rattle.plan.specs.Sound.{is_sound_at, is_plan, check_reply}
use Rattle.race.specs.Planner.{plan, are_parameters, plan_reply}

-- what the planner's call leaves in the lent order, and in the lent groups
unfoldable pub order_left : Matrix → (w p k : ℕ) (order groups : List ℕ) → List ℕ
order_left m w p k order groups = lent (plan_reply m w p k (length order) (length groups)) (plan m w p k).order order

unfoldable pub groups_left : Matrix → (w p k : ℕ) (order groups : List ℕ) → List ℕ
groups_left m w p k order groups = lent (plan_reply m w p k (length order) (length groups)) (flat (plan m w p k).groups) groups

-- there is room in the lists for the plan of m
pub record PlanRoom (m : Matrix) (w p k : ℕ) (order groups : List ℕ) : Type 0 where
  pub rows : m.n ≤ length order
  pub records : width * length (plan m w p k).groups ≤ length groups

-- a call with such lists
pub record PlanLeft (m : Matrix) (w p k : ℕ) (order groups : List ℕ) : Type 0 where
  -- is accepted, with the count of groups
  pub accepts : plan_reply m w p k (length order) (length groups) ≡ accepted (length (plan m w p k).groups)
  -- what it leaves passes the check of plans at k, with that count, whatever stands past the plan
  pub passes : check_reply m (order_left m w p k order groups) (groups_left m w p k order groups) (length (plan m w p k).groups) k ≡ accepted 0
  -- "The force run still checks at 2, so its promise holds for plans made with 2, 3 or 4": no call on a run refuses it
  -- with 8
  pub runs : 2 ≤ k → is_plan m (order_left m w p k order groups) (groups_left m w p k order groups) (length (plan m w p k).groups) ≡ true

pub record PlannedSound : Type 0 where
  pub sound : (m : Matrix) (w p k : ℕ) → is_matrix m ≡ true → are_parameters w p k ≡ true → is_sound_at k m (plan m w p k) ≡ true
  pub few : (m : Matrix) (w p k : ℕ) → is_matrix m ≡ true → are_parameters w p k ≡ true → length (plan m w p k).groups ≤ 481
  pub left : (m : Matrix) (w p k : ℕ) (order groups : List ℕ) → is_matrix m ≡ true → are_parameters w p k ≡ true → PlanRoom m w p k order groups → PlanLeft m w p k order groups
