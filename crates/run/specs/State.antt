-- A run's state.
use Rattle.std.specs.Prelude.{List, ℕ, replicate, ℤ, pos}
use Rattle.plan.specs.Sound.{max_workers}

-- "A run's state ..: moves made (32 bits) and held number (64 bits) for each of 16 workers, beside a lent list of n
-- sums in plan order"
pub record State : Type 0 where
  pub made : List ℕ
  pub held : List ℤ
  pub sums : List ℤ

-- "Fresh means all 0, the sums too"
unfoldable pub fresh : (n : ℕ) → State
fresh n = record { made = replicate max_workers 0; held = replicate max_workers (pos 0); sums = replicate n (pos 0) }
