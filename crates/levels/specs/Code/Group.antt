-- A group: some of the rows.
use Rattle.std.specs.Prelude.{◌≡◌, true, List, ℕ, ◌≤◌, ◌<◌}
use Rattle.base.specs.Lists.{is_in}
use Rattle.base.specs.Code.Counts.{count}

-- each row at most once, and below n
pub record Proper (n : ℕ) (T : List ℕ) : Type 0 where
  pub once : (v : ℕ) → count v T ≤ 1
  pub inside : (v : ℕ) → is_in T v ≡ true → v < n
