-- Parts of the check of a matrix, for the contracts of the code. `is_matrix` says that it is shaped, its rows ordered
-- and its entries mirrored, and that those on and below the diagonal are not too many (`matrix-parts` of
-- proofs/Checks.antt).
use Rattle.std.specs.Prelude.{Bool, ◌&&◌, List, ℕ, suc, ◌+◌, ◌≤◌, ◌<◌, eqb, ltb, leb, ℤ, length, get_or}
use Rattle.base.specs.Lists.{filter, all, range}
use Rattle.base.specs.Integers.{within}
use Rattle.matrix.specs.Limits.{max_rows, max_value}
use Rattle.matrix.specs.Matrix.{Matrix, columns_of, ascending, mirrored}

-- row i lies within a list of the given length
pub record RowIn (starts : List ℕ) (size i : ℕ) : Type 0 where
  pub starts-long : i + 1 < length starts
  pub rises : get_or starts i 0 ≤ get_or starts (i + 1) 0
  pub ends : get_or starts (i + 1) 0 ≤ size

-- row i does not start after row i + 1
abbrev pub rises : (starts : List ℕ) → ℕ → Bool
rises starts i = leb (get_or starts i 0) (get_or starts (suc i) 0)

-- the number of rows is within its limits, the row starts begin at 0 and never fall, and the lists hold the last row
unfoldable pub shaped : Matrix → Bool
shaped m =
    leb 1 m.n && leb m.n max_rows
    && leb (suc m.n) (length m.starts) && eqb (get_or m.starts 0 0) 0
    && leb (get_or m.starts m.n 0) (length m.columns) && leb (get_or m.starts m.n 0) (length m.values)
    && all (rises m.starts) (range 0 m.n)

-- a row's columns ascend and are below n, its values are within their limit
unfoldable pub is_ordered : (n : ℕ) (columns : List ℕ) (values : List ℤ) → Bool
is_ordered n columns values = ascending columns && all (λ j. ltb j n) columns && all (within max_value) values

-- every entry is mirrored
abbrev pub mirrored_row : Matrix → ℕ → Bool
mirrored_row m i = all (mirrored m i) (columns_of m i)

unfoldable pub symmetric : Matrix → Bool
symmetric m = all (mirrored_row m) (range 0 m.n)

-- how many numbers of a list are below c: in an ascending list, the place of c if it is there
unfoldable pub place_in : List ℕ → ℕ → ℕ
place_in xs c = length (filter (λ x. ltb x c) xs)
