-- Q-5 in its own words: "The root becomes the unreached freedom of the group with the fewest joined freedoms in the whole
-- matrix, the lowest number on a tie."
use Rattle.std.specs.Prelude.{◌≡◌, Bool, true, List, [], ◌∷◌, ℕ, ◌≤◌}
use Rattle.base.specs.Lists.{filter, is_in, range}
use Rattle.levels.specs.Levels.{degree, root}

pub record IsRoot (adj : ℕ → List ℕ) (T rest : List ℕ) (r : ℕ) : Type 0 where
  -- "the unreached freedom of the group"
  pub own : is_in T r ≡ true
  pub unreached : is_in rest r ≡ true
  -- "with the fewest joined freedoms"
  pub fewest : (v : ℕ) → is_in T v ≡ true → is_in rest v ≡ true → degree adj r ≤ degree adj v
  -- "the lowest number on a tie"
  pub lowest : (v : ℕ) → is_in T v ≡ true → is_in rest v ≡ true → degree adj v ≡ degree adj r → r ≤ v

-- the rows not yet reached, rest, are those of n that pass some test
pub record Roots : Type 0 where
  pub is : (adj : ℕ → List ℕ) (n : ℕ) (T : List ℕ) (p : ℕ → Bool) (r : ℕ) (rs : List ℕ) → root adj T (filter p (range 0 n)) ≡ r ∷ rs → (rs ≡ []) × IsRoot adj T (filter p (range 0 n)) r
  -- as long as a row of T is not yet reached, there is one
  pub some : (adj : ℕ → List ℕ) (T rest : List ℕ) (t : ℕ) → is_in T t ≡ true → is_in rest t ≡ true → (r : ℕ) × (root adj T rest ≡ r ∷ [])
