-- The entries of a text in three arrays: rows, columns and values, in the order of their lines.
use Rattle.std.specs.Prelude.{◌≡◌, List, [], ◌∷◌, ◌++◌, ℕ, zero, suc, ℤ, pos, length, get_or}
use Rattle.matrix.specs.Limits.{max_entries}
use Rattle.market.specs.Parse.{Triplet, triplet}

-- the first k entries of three arrays
unfoldable pub triplets_of : ℕ → List ℕ → List ℕ → List ℤ → List Triplet
triplets_of zero rs cs vs = []
triplets_of (suc k) rs cs vs = triplets_of k rs cs vs ++ triplet (get_or rs k 0) (get_or cs k 0) (get_or vs k (pos 0)) ∷ []

-- three arrays as long as the largest count of entries
pub record Arrays (rs cs : List ℕ) (vs : List ℤ) : Type 0 where
  pub rows : length rs ≡ max_entries
  pub columns : length cs ≡ max_entries
  pub values : length vs ≡ max_entries
