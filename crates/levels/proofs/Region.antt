-- Who is in the region of T: the rows within reach - 1 joins of T.
use mathlib.Core.Path.{◌≡◌}
use mathlib.Core.Bool.{true}
use mathlib.Core.List.{List}
use Prim.Native.Nat.{ℕ, ◌-◌, ◌≤◌, ◌<◌}
use native.Mathlib.Omega.{arith}
use lib.ListN.{length}
use Rattle.base.specs.Lists.{is_in, range}
use Rattle.base.specs.Near.{near}
use Rattle.base.proofs.Lists.{filter_passes, filter-of, is_in-range, length-filter-le, length-range}
use Rattle.base.proofs.Counts.{count, count-split, count-range}
use Rattle.base.proofs.Near.{near_le}
use Rattle.levels.specs.Levels.{region}

module _ (adj : ℕ → List ℕ) (reach n : ℕ) (T : List ℕ) where
  -- a row within so many joins
  pub region-near : (k v : ℕ) → k ≤ reach - 1 → v < n → near adj k T v ≡ true → is_in (region adj reach n T) v ≡ true
  unfolding region
  region-near k v le l h = filter-of (near adj (reach - 1) T) (range 0 n) v (is_in-range 0 n v (omega arith) (omega arith)) (near_le adj k (reach - 1) T v le h)

  -- a row of T
  pub region-own : (v : ℕ) → v < n → is_in T v ≡ true → is_in (region adj reach n T) v ≡ true
  unfolding near
  region-own v l h = region-near 0 v (omega arith) l h

  -- every row of the region is so near
  pub region-within : (v : ℕ) → is_in (region adj reach n T) v ≡ true → near adj (reach - 1) T v ≡ true
  unfolding region
  region-within v h = filter_passes (near adj (reach - 1) T) (range 0 n) v h

  -- the region has at most n rows
  pub length-region : length (region adj reach n T) ≤ n
  unfolding region
  length-region = omega (arith, length-filter-le (near adj (reach - 1) T) (range 0 n), length-range 0 n)

  -- .. each at most once
  pub count-region : (v : ℕ) → count v (region adj reach n T) ≤ 1
  unfolding region
  count-region v = omega (arith, count-split v (near adj (reach - 1) T) (range 0 n), count-range v 0 n)
