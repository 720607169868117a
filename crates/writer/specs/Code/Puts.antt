-- Bytes put into a lent text, one after the other.
use Rattle.std.specs.Prelude.{◌≡◌, cond, List, [], ◌∷◌, ◌++◌, map, ℕ, ◌+◌, ◌/◌, ◌%◌, ◌≤◌, ◌<◌, ltb, ℤ, length, get_or, take, drop}
use Rattle.base.specs.Lists.{concat}
use Rattle.matrix.specs.Limits.{max_rows}
use Rattle.market.specs.Bytes.{digit0}
use Rattle.market.specs.Parse.{Triplet, triplet}
use Rattle.market.specs.Text.{entry_line}

-- xs stands from place at on, r is the place after it, and the rest is as it was
pub record Put (xs : List ℕ) (at r : ℕ) (old new : List ℕ) : Type 0 where
  pub next : r ≡ at + length xs
  pub long : length new ≡ length old
  pub text : new ≡ take at old ++ (xs ++ drop (at + length xs) old)

-- the digit of a number at a power of ten, if the number has reached it
unfoldable pub digit_at : (power v : ℕ) → List ℕ
digit_at power v = cond (ltb v power) [] ((digit0 + v / power % 10) ∷ [])

-- the entry of row j and column c, mirrored, if c is not before the diagonal
unfoldable pub if_lower : (j c : ℕ) → ℤ → List Triplet
if_lower j c v = cond (ltb c j) [] (triplet c j v ∷ [])

-- of row j's columns and values, those from the diagonal on, mirrored: column j on and below the diagonal
unfoldable pub from_diagonal : (j : ℕ) → List ℕ → List ℤ → List Triplet
from_diagonal j [] vs = []
from_diagonal j (c ∷ cs) [] = []
from_diagonal j (c ∷ cs) (v ∷ vs) = if_lower j c v ++ from_diagonal j cs vs

-- the lines of entries
abbrev pub lines_of : List Triplet → List ℕ
lines_of es = concat (map entry_line es)

-- columns and values of row j of a matrix within limits
pub record Row (j : ℕ) (cs : List ℕ) (vs : List ℤ) : Type 0 where
  pub low : j < max_rows
  pub beside : length cs ≡ length vs
  pub few : length cs ≤ max_rows
  pub columns : (k : ℕ) → k < length cs → get_or cs k 0 < max_rows

-- how many entries, and how many bytes their lines take
pub record Tallied (es : List Triplet) (entries bytes : ℕ) : Type 0 where
  pub entries_are : entries ≡ length es
  pub bytes_are : bytes ≡ length (lines_of es)
