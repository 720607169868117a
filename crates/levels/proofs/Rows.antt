-- The rows of a matrix as the code reads them.
use mathlib.Core.Path.{◌≡◌, refl, sym, ap, subst}
use mathlib.Core.Bool.{true, not}
use mathlib.Core.List.{List, map}
use Prim.Native.Nat.{ℕ, zero, suc, ◌+◌, ◌-◌, ◌≤◌, ◌<◌}
use native.Mathlib.Omega.{arith}
use native.Mathlib.Numerals.{add-one}
use lib.Dec.{eqb}
use lib.ListN.{length, get_or}
use lib.Seq.{slice, length-slice}
use Rattle.base.specs.Lists.{is_in, sum, sum_below}
use Rattle.base.proofs.Lists.{in_get, length-filter-le}
use Rattle.base.proofs.Sums.{sum-below-le}
use Rattle.base.proofs.Graph.{Graph}
use Rattle.matrix.specs.Matrix.{Matrix, part_of, columns_of, neighbours, is_matrix}
use Rattle.matrix.specs.Code.Pattern.{pattern}
use Rattle.matrix.specs.Code.Checks.{RowIn}
use Rattle.matrix.proofs.Entries.{few-entries}
use Rattle.matrix.proofs.Rows.{columns-part}
use Rattle.matrix.proofs.Matrix.{neighbour_column, MatrixFacts, matrix_facts, column-low, adjacent-both}
use Rattle.levels.specs.Code.Group.{Proper}
use Rattle.levels.specs.Levels.{degree}
use Rattle.levels.specs.Code.Rows.{Rows, adj_of}
use Rattle.levels.proofs.Degrees.{degree-below, sum-proper}

module _ {n : ℕ} {starts columns : List ℕ} (r : Rows n starts columns) where
  -- a row lies inside the columns
  pub row_in : (u : ℕ) → u < n → RowIn starts (length columns) u
  row_in u l = record { starts-long = omega (arith, r.long); rises = r.up u l; ends = r.fits u l }

  -- what is read there are its columns
  pub row_is : (u : ℕ) → u < n → slice (get_or starts u 0) (get_or starts (u + 1) 0) columns ≡ columns_of (pattern n starts columns) u
  row_is u l = sym (columns-part (pattern n starts columns) u l)

  -- each is a row
  pub row_below : (u i : ℕ) → i < length (columns_of (pattern n starts columns) u) → get_or (columns_of (pattern n starts columns) u) i 0 < n
  row_below u i l = let row = columns_of (pattern n starts columns) u in r.inside u (get_or row i 0) (in_get row i l)

  -- it is adjacent to no more rows than it has columns
  degree-le : (v : ℕ) → v < n → degree (adj_of n starts columns) v ≤ get_or starts (v + 1) 0 - get_or starts v 0
  unfolding neighbours
  degree-le v l =
      let row = columns_of (pattern n starts columns) v in
      omega (arith, length-filter-le (λ j. not (eqb j v)) row, ap length (row_is v l), length-slice (get_or starts v 0) (get_or starts (v + 1) 0) columns (r.fits v l))

  -- .. and the rows of a group to no more than there are entries
  pub degrees_few : (T : List ℕ) → Proper n T → sum (map (degree (adj_of n starts columns)) T) ≤ get_or starts n 0
  unfolding sum_below
  degrees_few T pr = omega (arith, sum-proper (degree (adj_of n starts columns)) n T pr, sum-below-le (degree (adj_of n starts columns)) (λ v. get_or starts (v + 1) 0 - get_or starts v 0) n degree-le, up-to n (omega arith))
    where
      up-to : (k : ℕ) → k ≤ n → sum_below (λ v. get_or starts (v + 1) 0 - get_or starts v 0) k ≤ get_or starts k 0
      up-to zero l = omega arith
      up-to (suc k) l = rw (← add-one k) (omega (arith, up-to k (omega arith), r.up k (omega arith)))

  -- the rows with their adjacent rows are a graph
  pub rows_graph : Graph (adj_of n starts columns) n
  rows_graph = record { below = λ u v h. r.inside v u (neighbour_column (pattern n starts columns) v u h); both = r.both }

-- ---- a matrix

-- adjacency looks at row starts and columns alone
pub pattern-neighbours : (m : Matrix) → adj_of m.n m.starts m.columns ≡ neighbours m
unfolding neighbours columns_of part_of
pattern-neighbours m = refl

pattern-columns : (m : Matrix) (v : ℕ) → columns_of (pattern m.n m.starts m.columns) v ≡ columns_of m v
unfolding columns_of part_of
pattern-columns m v = refl

-- a matrix has rows that the search may read
pub rows-of : (m : Matrix) → is_matrix m ≡ true → Rows m.n m.starts m.columns
rows-of m ok = record {
  small = facts.few;
  long = omega (arith, facts.starts_long);
  up = λ v l. rw (add-one v) (facts.row v l).rises;
  fits = λ v l. let e : v + 1 + (m.n - (v + 1)) ≡ m.n = omega arith in omega (arith, rise (v + 1) (m.n - (v + 1)) (omega arith), ap at e, facts.columns_long);
  inside = λ v j h. column-low m ok v j (rw (pattern-columns m v) at h);
  few = few-entries m ok;
  short = subst (λ (adj : ℕ → List ℕ). (v : ℕ) → v < m.n → degree adj v < m.n) (sym (pattern-neighbours m)) (degree-below m ok);
  both = subst (λ (adj : ℕ → List ℕ). (u v : ℕ) → is_in (adj v) u ≡ true → is_in (adj u) v ≡ true) (sym (pattern-neighbours m)) (λ u v h. adjacent-both m ok v u h);
}
  where
    facts : MatrixFacts m
    facts = matrix_facts m ok

    at : ℕ → ℕ
    at i = get_or m.starts i 0

    rise : (i j : ℕ) → i + j ≤ m.n → at i ≤ at (i + j)
    rise i zero l = let e : i + 0 ≡ i = omega arith in rw e (omega arith)
    rise i (suc j) l = let e : i + suc j ≡ suc (i + j) = omega arith in rw e (omega (arith, rise i j (omega arith), (facts.row (i + j) (omega arith)).rises))
