-- The check of symmetry in one pass, with a cursor a row: what is met, row by row.
use Rattle.std.specs.Prelude.{◌≡◌, Bool, true, false, ◌&&◌, List, ℕ, ◌+◌, ◌≤◌, ◌<◌, eqb, ltb, pos, length, get_or}
use Rattle.base.specs.Lists.{all, range}
use Rattle.matrix.specs.Matrix.{Matrix, columns_of, ascending}
use Rattle.matrix.specs.Code.Checks.{symmetric, place_in}

-- row i's columns ascend and are below n
abbrev pub climbing_row : Matrix → ℕ → Bool
climbing_row m i = ascending (columns_of m i) && all (λ j. ltb j m.n) (columns_of m i)

-- each row's do, and every entry is mirrored
unfoldable pub regular : Matrix → Bool
regular m = all (climbing_row m) (range 0 m.n) && symmetric m

-- the entry at place p of row i has a mirror: in the row of its column, in column i, with the same value
pub record Mirror (m : Matrix) (i p : ℕ) : Type 0 where
  pub place : ℕ
  pub low : get_or m.starts (get_or m.columns p 0) 0 ≤ place
  pub high : place < get_or m.starts (get_or m.columns p 0 + 1) 0
  pub column : get_or m.columns place 0 ≡ i
  pub value : get_or m.values place (pos 0) ≡ get_or m.values p (pos 0)

-- row i up to the place `end`: its columns ascend and are below `most`, each entry has a mirror
pub record Met (m : Matrix) (most i end : ℕ) : Type 0 where
  pub low : get_or m.starts i 0 ≤ end
  pub high : end ≤ get_or m.starts (i + 1) 0
  pub climbs : (p : ℕ) → get_or m.starts i 0 ≤ p → p + 1 < end → get_or m.columns p 0 < get_or m.columns (p + 1) 0
  pub below : (p : ℕ) → get_or m.starts i 0 ≤ p → p < end → get_or m.columns p 0 < most
  pub mirror : (p : ℕ) → get_or m.starts i 0 ≤ p → p < end → Mirror m i p

-- Cursors of the rows below i: each row is met up to its cursor, which in a regular matrix has passed the columns below
-- i
pub record Cursors (m : Matrix) (i : ℕ) (cursors : List ℕ) : Type 0 where
  pub size : m.n ≤ length cursors
  pub met : (j : ℕ) → j < i → Met m i j (get_or cursors j 0)
  pub exact : regular m ≡ true → (j : ℕ) → j < i → get_or cursors j 0 ≡ get_or m.starts j 0 + place_in (columns_of m j) i

-- what meeting the entries of row i with their mirrors answers, and leaves in the cursors
pub record RowMet (m : Matrix) (i : ℕ) (met : Bool) (cursors : List ℕ) : Type 0 where
  pub yes : met ≡ true → Cursors m (i + 1) cursors
  pub missed : met ≡ false → regular m ≡ false

-- the cursor of row i stands where the row ends
abbrev pub ended : (starts cursors : List ℕ) → ℕ → Bool
ended starts cursors i = eqb (get_or cursors i 0) (get_or starts (i + 1) 0)
