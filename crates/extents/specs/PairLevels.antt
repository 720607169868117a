-- Q-8 of pairs and colours, in its own words: of every group of w workers and load R, of which some levels and workers
-- are left, and any p.
use Rattle.std.specs.Prelude.{◌≡◌, ◌⊎◌, List, ℕ, ◌+◌, ◌*◌, ◌≤◌, ◌<◌, length}
use Rattle.extents.specs.Extents.{Policy, Extent, extent, cut}

-- the next pair, where there are enough levels left for one
pub record PairTakes (reach all free : ℕ) (e : Extent) : Type 0 where
  -- "a pair has at least 2 × k levels", and a worker
  pub long : 2 * reach ≤ e.levels
  pub some : 1 ≤ e.workers
  -- "a pair takes all if fewer than 2 × k would be left": all levels and workers, or it leaves as many and a worker
  pub rest : ((e.levels ≡ all) × (e.workers ≡ free)) ⊎ ((e.levels + 2 * reach ≤ all) × (e.workers < free))

pub record PairLevels : Type 0 where
  pub pairs : (w R : ℕ) (policy : Policy) (free : ℕ) (qs : List ℕ) → 1 ≤ policy.reach → 1 ≤ free → 2 * policy.reach ≤ length qs
      → PairTakes policy.reach (length qs) free (extent w R policy free qs)
  -- "a colour at least k": the reds, and the blues, which have the rest
  pub colours : (reach : ℕ) (qs : List ℕ) → 2 * reach ≤ length qs → (reach ≤ cut reach qs) × (cut reach qs + reach ≤ length qs)
