-- What rows add to their group's load.
use Rattle.std.specs.Prelude.{List, map, ℕ, suc}
use Rattle.base.specs.Lists.{sum}
use Rattle.levels.specs.Levels.{degree}

-- what a row adds to its group's load: "A freedom's load becomes 1 plus the number of freedoms joined to it in the
-- whole matrix" (document 02, Q-1)
unfoldable pub weight : (adj : ℕ → List ℕ) → ℕ → ℕ
weight adj v = suc (degree adj v)

-- "Load is .. of T's own freedoms, outsiders left out", "R is the sum over the group"
unfoldable pub load_of : (adj : ℕ → List ℕ) → List ℕ → ℕ
load_of adj vs = sum (map (weight adj) vs)
