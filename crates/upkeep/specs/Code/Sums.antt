-- What the code asks of a change, and what it makes.
use Rattle.std.specs.Prelude.{◌≡◌, ◌≢◌, true, List, [], ◌∷◌, ℕ, ◌*◌, ◌≤◌, ◌<◌, ℤ, pos, nat_abs, ◌+ℤ◌, ◌*ℤ◌, length, get_or}
use Rattle.base.specs.Replies.{Reply, accepted, refused, check, in_turn}
use Rattle.base.specs.Refusals as why
use Rattle.matrix.specs.Limits.{max_value, max_displacement}
use Rattle.base.specs.Lists.{is_in}
use Rattle.matrix.specs.Matrix.{Matrix, columns_of, lookup, matrix_check, displacement_check}
use Rattle.matrix.specs.Code.Checks.{is_ordered}
use Rattle.matrix.specs.SmallForces.{largest_force}
use Rattle.upkeep.specs.Upkeep.{are_forces, entry_place}

-- 5, 6, 20: the checks before those of the change
unfoldable pub current_reply : Matrix → (displacements forces : List ℤ) → Reply
current_reply m x fs = in_turn refused (matrix_check m ∷ displacement_check m.n x ∷ check why.not_forces (are_forces m x fs) ∷ []) (accepted 0)

-- what the sum of forces and a row times a difference of displacements asks
pub record Addable (columns : List ℕ) (values : List ℤ) (step : ℤ) (forces : List ℤ) : Type 0 where
  pub order : is_ordered (length forces) columns values ≡ true
  pub beside : length columns ≡ length values
  pub near : nat_abs step ≤ 2 * max_displacement
  pub small : (r : ℕ) → nat_abs (get_or forces r (pos 0)) ≤ largest_force

-- .. and that sum
pub record Added (columns : List ℕ) (values : List ℤ) (step : ℤ) (old new : List ℤ) : Type 0 where
  pub long : length new ≡ length old
  pub each : (r : ℕ) → get_or new r (pos 0) ≡ get_or old r (pos 0) +ℤ lookup r columns values *ℤ step

-- what the sums of an entry's two forces ask
pub record BothIn (forces : List ℤ) (i j : ℕ) (first second : ℤ) : Type 0 where
  pub here : i < length forces
  pub there : j < length forces
  pub near_first : nat_abs first ≤ 2 * max_value * max_displacement
  pub near_second : nat_abs second ≤ 2 * max_value * max_displacement
  pub small : (r : ℕ) → nat_abs (get_or forces r (pos 0)) ≤ largest_force

-- .. and those sums: of one row twice, the first
pub record BothAdded (i j : ℕ) (first second : ℤ) (old new : List ℤ) : Type 0 where
  pub long : length new ≡ length old
  pub own : get_or new i (pos 0) ≡ get_or old i (pos 0) +ℤ first
  pub other : i ≢ j → get_or new j (pos 0) ≡ get_or old j (pos 0) +ℤ second
  pub rest : (r : ℕ) → r ≢ i → r ≢ j → get_or new r (pos 0) ≡ get_or old r (pos 0)

-- entry (i, j) is stored at place p of the values, and its mirror at place q
pub record Placed (m : Matrix) (i j p q : ℕ) : Type 0 where
  pub stored : is_in (columns_of m i) j ≡ true
  pub first : p ≡ entry_place m i j
  pub second : q ≡ entry_place m j i
