-- Graphs on the numbers below n, each number with the list of those adjacent to it.
use mathlib.Core.Path.{◌≡◌}
use mathlib.Core.Bool.{true}
use mathlib.Core.List.{List}
use Prim.Native.Nat.{ℕ, ◌<◌}
use Rattle.base.specs.Lists.{is_in}

-- adjacent numbers are below n, and adjacent both ways
pub record Graph (adj : ℕ → List ℕ) (n : ℕ) : Type 0 where
  pub below : (u v : ℕ) → is_in (adj v) u ≡ true → u < n
  pub both : (u v : ℕ) → is_in (adj v) u ≡ true → is_in (adj u) v ≡ true
