-- How far rows are from each other. `adj v` lists the rows adjacent to row v.
use Rattle.std.specs.Prelude.{Bool, ◌||◌, List, ℕ, zero, suc}
use Rattle.base.specs.Lists.{any, is_in}

-- a path of k joins or fewer links v with a row of T
unfoldable pub near : (adj : ℕ → List ℕ) (k : ℕ) → List ℕ → ℕ → Bool
near adj zero T v = is_in T v
near adj (suc k) T v = near adj k T v || any (near adj k T) (adj v)
