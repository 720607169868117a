-- "T is split if it has at least two workers, depth below 4 and m at least 4. Otherwise it is a leaf": what holds of
-- every leaf of the planner's plans, by request Q-8 with "m at least 2 × k".
use Rattle.std.specs.Prelude.{◌≡◌, ◌⊎◌, true, ℕ, ◌*◌, ◌≤◌, ◌<◌, length}
use Rattle.matrix.specs.Matrix.{Matrix, neighbours, is_matrix}
use Rattle.levels.specs.Levels.{own_levels}
use Rattle.plan.specs.Groups.{Group, Plan}
use Rattle.plan.specs.Sound.{max_depth, stretch_of}
use Rattle.plan.specs.Depths.{group_at}
use Rattle.race.specs.Planner.{plan, are_parameters}

-- fewer than two workers, the greatest depth, or fewer than 2 × k levels; its own rows are its stretch of the order
abbrev pub IsUnsplit : Matrix → (k : ℕ) → Plan → Group → Type 0
IsUnsplit m k p g = (g.workers < 2) ⊎ ((max_depth ≤ g.depth) ⊎ (length (own_levels (neighbours m) k m.n (stretch_of p.order g)) < 2 * k))

pub record PlannedLeaves : Type 0 where
  -- the record at index i, if none after the whole's has it as its parent
  pub leaves : (m : Matrix) (w p k : ℕ) → is_matrix m ≡ true → are_parameters w p k ≡ true → (i : ℕ) → i < length (plan m w p k).groups
      → ((c : ℕ) → 0 < c → c < length (plan m w p k).groups → (group_at (plan m w p k).groups c).parent ≡ i → ⊥)
      → IsUnsplit m k (plan m w p k) (group_at (plan m w p k).groups i)
