-- The upper triangle for a list of picks: whole, or of those rows alone whose updates the picks can reach.
use Rattle.std.specs.Prelude.{◌≡◌, Bool, true, false, List, ℕ, ◌+◌, ◌/◌, ◌≤◌, ◌<◌, ℤ, length, get_or}
use Rattle.matrix.specs.Limits.{max_rows}
use Rattle.matrix.specs.Matrix.{Matrix}
use Rattle.plan.specs.Sound.{max_workers}
use Rattle.tables.specs.Code.Laid.{max_updates}
use Rattle.upper.specs.Code.Upper.{upper_of, UpperLaid}
use Rattle.upper.specs.Code.Row.{Part}
use Rattle.steps.specs.Code.Steps.{place_next}

-- the row at p has its part, before place b
pub record PartBefore (m : Matrix) (order : List ℕ) (b p : ℕ) (parts at : List ℕ) (beside : List ℤ) : Type 0 where
  pub part : Part m order p (get_or parts p 0) at beside
  pub below : get_or parts p 0 + length (upper_of m order p) ≤ b

-- The rows of a set have their parts, before place b. Of any row no more than what is there is looked at
pub record PartsOf (m : Matrix) (order : List ℕ) (rows : ℕ → Bool) (b : ℕ) (parts at : List ℕ) (beside : List ℤ) : Type 0 where
  pub parts_long : length parts ≡ max_rows
  pub at_low : (k : ℕ) → get_or at k 0 < m.n
  pub room : (p : ℕ) → p < m.n → get_or parts p 0 + length (upper_of m order p) ≤ length at
  pub is : (p : ℕ) → rows p ≡ true → PartBefore m order b p parts at beside

-- What is laid with the sizes: the whole upper triangle in tables that have room for every matrix's, in smaller ones
-- nothing
pub record Started (m : Matrix) (order parts at : List ℕ) (beside : List ℤ) : Type 0 where
  pub whole : length at ≡ max_updates → UpperLaid m order parts at beside
  pub none : length at < max_updates → PartsOf m order (λ q. false) 0 parts at beside

-- a set with the rows of the places from one on and before another
pub record With (rows : ℕ → Bool) (row : List ℕ) (from to : ℕ) (more : ℕ → Bool) : Type 0 where
  pub kept : (p : ℕ) → rows p ≡ true → more p ≡ true
  pub has : (k : ℕ) → from ≤ k → k < to → more (get_or row k 0) ≡ true

-- The rows of all updates that so many picks can reach from these counts have their parts
pub record PartsAhead (m : Matrix) (order first row made : List ℕ) (picks : ℕ) (parts at : List ℕ) (beside : List ℤ) : Type 0 where
  pub at_low : (k : ℕ) → get_or at k 0 < m.n
  pub room : (p : ℕ) → p < m.n → get_or parts p 0 + length (upper_of m order p) ≤ length at
  pub is : (w k : ℕ) → w < max_workers → place_next first made w ≤ k → k ≤ place_next first made w + picks / 2 → k < get_or first (w + 1) 0
      → Part m order (get_or row k 0) (get_or parts (get_or row k 0) 0) at beside
