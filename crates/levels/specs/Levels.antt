-- The levels of a group T. `adj v` lists the rows adjacent to row v, and there are n rows.
-- `reach` is the distance that a colouring keeps, document 02's k: rows of two like-coloured children of one parent are
-- more than so many joins apart.
use Rattle.std.specs.Prelude.{Bool, not, List, [], ◌∷◌, map, ℕ, zero, suc, ◌-◌, ◌*◌, length}
use Rattle.base.specs.Lists.{filter, any, is_in, range, trim, best_of}
use Rattle.base.specs.Near.{near}

-- "the number of freedoms joined to it in the whole matrix"
abbrev pub degree : (adj : ℕ → List ℕ) → ℕ → ℕ
degree adj v = length (adj v)

-- "The level region becomes T and all freedoms within k − 1 joins of it", ascending
unfoldable pub region : (adj : ℕ → List ℕ) (reach n : ℕ) → List ℕ → List ℕ
region adj reach n T = filter (near adj (reach - 1) T) (range 0 n)

-- "The root becomes the unreached freedom of the group with the fewest joined freedoms in the whole matrix, the lowest
-- number on a tie": of the rows not yet reached, rest, which ascend, it alone; none if T has none there
unfoldable pub root : (adj : ℕ → List ℕ) (T rest : List ℕ) → List ℕ
root adj T rest = best_of (degree adj) (filter (is_in T) rest)

-- Which of the rows not yet reached, rest, are on the next level: those adjacent to the last level. At first, and after
-- an empty level, the root of the next component (document 01's island) alone: so "each later one two above the highest
-- level in use", and "outsiders' levels all count for the next island"
unfoldable pub is_next : (adj : ℕ → List ℕ) (T last rest : List ℕ) → ℕ → Bool
is_next adj T [] rest v = is_in (root adj T rest) v
is_next adj T (x ∷ xs) rest v = any (is_in (x ∷ xs)) (adj v)

-- the next k levels, each ascending: "each freedom the root reaches inside the region has as level its distance from
-- the root plus the island's first level"
unfoldable pub levels_from : (adj : ℕ → List ℕ) → ℕ → (T last rest : List ℕ) → List (List ℕ)
levels_from adj zero T last rest = []
levels_from adj (suc k) T last rest =
    let new = filter (is_next adj T last rest) rest in
    new ∷ levels_from adj k T new (filter (λ v. not (is_next adj T last rest v)) rest)

-- all levels of T's region; 2 × n are enough, and those past the highest are empty
unfoldable pub levels : (adj : ℕ → List ℕ) (reach n : ℕ) → List ℕ → List (List ℕ)
levels adj reach n T = levels_from adj (2 * n) T [] (region adj reach n T)

-- T's own rows level by level, "sorted by level, then by number", up to the highest level that holds one. "Let m be the
-- highest level holding a freedom of T, plus 1 (0 if T is empty)": m is its length. "Empty levels count as levels"
unfoldable pub own_levels : (adj : ℕ → List ℕ) (reach n : ℕ) → List ℕ → List (List ℕ)
own_levels adj reach n T = trim (map (filter (is_in T)) (levels adj reach n T))
