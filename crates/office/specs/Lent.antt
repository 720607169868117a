-- What the planner's call returns, and what it leaves in each list.
use Rattle.std.specs.Prelude.{◌≡◌, List, ℕ, ◌/◌, length}
use Rattle.base.specs.Replies.{Reply, lent}
use Rattle.matrix.specs.Matrix.{Matrix}
use Rattle.plan.specs.Groups.{flat}
use Rattle.race.specs.Planner.{plan, plan_reply}
use Rattle.words.specs.LittleEndian.{unsigned_bytes}
use Rattle.lent.specs.Word.{word}

-- the planner's reply, of lists of four bytes a number
abbrev pub plan_in : Matrix → (workers p k : ℕ) (order groups : List ℕ) → Reply
plan_in m workers p k order groups = plan_reply m workers p k (length order / 4) (length groups / 4)

-- the planner's call, of a matrix, workers, a share, a distance and two lists: the returned word, and the lists after
-- it
pub record PlanAnswered (m : Matrix) (workers p k : ℕ) (order groups : List ℕ) (returned : ℕ) (new_order new_groups : List ℕ) : Type 0 where
  pub returns : returned ≡ word (plan_in m workers p k order groups)
  pub order-left : new_order ≡ lent (plan_in m workers p k order groups) (unsigned_bytes 4 (plan m workers p k).order) order
  pub groups-left : new_groups ≡ lent (plan_in m workers p k order groups) (unsigned_bytes 4 (flat (plan m workers p k).groups)) groups
