-- Marks, one for each row: 0 outside the region, 1 not yet reached, k + 3 at level k. Mark 2 stands for the empty level
-- before the first.
use Rattle.std.specs.Prelude.{◌≡◌, cond, List, ℕ, eqb, length, get_or, take}
use Rattle.base.specs.Lists.{filter, is_in, range}

-- the rows with mark c, ascending
abbrev pub at_mark : (n : ℕ) (marks : List ℕ) → ℕ → List ℕ
at_mark n marks c = filter (λ v. eqb (get_or marks v 0) c) (range 0 n)

-- how many rows have mark c
abbrev pub how_many : (n : ℕ) (marks : List ℕ) → ℕ → ℕ
how_many n marks c = length (at_mark n marks c)

-- how many rows are not yet reached
abbrev pub unreached : (n : ℕ) (marks : List ℕ) → ℕ
unreached n marks = how_many n marks 1

-- the rows vs got mark 1, and the others kept theirs
pub record Marked (vs marks marks' : List ℕ) : Type 0 where
  pub long : length marks' ≡ length marks
  pub is : (v : ℕ) → get_or marks' v 0 ≡ cond (is_in vs v) 1 (get_or marks v 0)

-- list, which has room for every row with mark 1, holds those below v up to the place at
pub record Collected (n : ℕ) (marks : List ℕ) (v : ℕ) (list : List ℕ) (at : ℕ) : Type 0 where
  pub is : take at list ≡ at_mark v marks 1
  pub at_is : at ≡ unreached v marks
  pub long : length list ≡ unreached n marks
