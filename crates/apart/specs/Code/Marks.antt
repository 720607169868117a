-- Marks on the rows that the like-coloured children of a group touch: their rows and the rows some joins away.
use Rattle.std.specs.Prelude.{◌≡◌, Bool, true, not, ◌&&◌, cond, List, [], ◌∷◌, map, ℕ, zero, suc, ◌≤◌, ◌<◌, eqb, ltb, length, get_or}
use Rattle.base.specs.Lists.{any, is_in, concat}
use Rattle.matrix.specs.Limits.{max_rows}
use Rattle.matrix.specs.Matrix.{Matrix, columns_of}
use Rattle.plan.specs.Groups.{Group}
use Rattle.plan.specs.Sound.{stretch_of}
use Rattle.apart.specs.declared.marks.Marks.{Marks}

-- a row and its columns: the row itself and the rows adjacent to it
abbrev pub closed : Matrix → ℕ → List ℕ
closed m u = u ∷ columns_of m u

-- all that the rows touch
abbrev pub touched_by : Matrix → List ℕ → List ℕ
touched_by m rows = concat (map (closed m) rows)

-- all that is within j joins of the rows
unfoldable pub around : Matrix → (j : ℕ) → List ℕ → List ℕ
around m zero rows = rows
around m (suc j) rows = touched_by m (around m j rows)

-- what is within j joins of a group of a colour; nothing if the group has another
unfoldable pub around_like : Matrix → (order : List ℕ) (j colour : ℕ) → Group → List ℕ
around_like m order j colour g = cond (eqb g.colour colour) (around m j (stretch_of order g)) []

-- The mark of z is another child's: marks above low are of the children that are compared, and mine is of the one at
-- hand
unfoldable pub clashes : (low mine : ℕ) (marks : List ℕ) → ℕ → Bool
clashes low mine marks z = ltb low (get_or marks z 0) && not (eqb (get_or marks z 0) mine)

-- the rows zs have the mark mine, the others are as they were
pub record Stamped (mine : ℕ) (zs marks marks' : List ℕ) : Type 0 where
  pub long : length marks' ≡ length marks
  pub is : (v : ℕ) → get_or marks' v 0 ≡ cond (is_in zs v) mine (get_or marks v 0)

-- the answer r says that none of zs has another child's mark; then they are marked
pub record Touched (low mine : ℕ) (zs marks marks' : List ℕ) (r : Bool) : Type 0 where
  pub free : r ≡ not (any (clashes low mine marks) zs)
  pub stamped : r ≡ true → Stamped mine zs marks marks'

-- the rows whose mark in done is mine have touched theirs; no mark there is above mine
pub record Opened (m : Matrix) (mine : ℕ) (s : Marks) : Type 0 where
  pub long : length s.done ≡ max_rows
  pub most : (v : ℕ) → get_or s.done v 0 ≤ mine
  pub opened : (v : ℕ) → get_or s.done v 0 ≡ mine → (z : ℕ) → is_in (closed m v) z ≡ true → get_or s.given z 0 ≡ mine

-- the rows zs are touched, with what is then done
pub record Widened (m : Matrix) (low mine : ℕ) (zs : List ℕ) (s s' : Marks) (r : Bool) : Type 0 where
  pub touched : Touched low mine zs s.given s'.given r
  pub after : r ≡ true → Opened m mine s'

-- one mark for each row that there may be, none above top
pub record Most (top : ℕ) (marks : List ℕ) : Type 0 where
  pub long : length marks ≡ max_rows
  pub most : (v : ℕ) → get_or marks v 0 ≤ top

abbrev pub UpTo : (top : ℕ) → Marks → Type 0
UpTo top s = Most top s.given × Most top s.done

-- .. all below mine
pub record Below (mine : ℕ) (marks : List ℕ) : Type 0 where
  pub long : length marks ≡ max_rows
  pub below : (v : ℕ) → get_or marks v 0 < mine

abbrev pub Fresh : (mine : ℕ) → Marks → Type 0
Fresh mine s = Below mine s.given × Below mine s.done

-- the answer r says that none of the rows tested has another child's mark; then the rows stamped are marked
pub record Compared (low mine : ℕ) (tested stamped : List ℕ) (s s' : Marks) (r : Bool) : Type 0 where
  pub free : r ≡ not (any (clashes low mine s.given) tested)
  pub marked : r ≡ true → Stamped mine stamped s.given s'.given
  pub done : r ≡ true → Most mine s'.done

-- the answer r is what the test says; if it holds, no mark is above top
pub record Judged (test : Bool) (top : ℕ) (s : Marks) (r : Bool) : Type 0 where
  pub is : r ≡ test
  pub marked : r ≡ true → UpTo top s
