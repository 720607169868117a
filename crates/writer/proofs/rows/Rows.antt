-- The rows of a matrix as the writer goes through them.
use mathlib.Core.Path.{◌≡◌, refl, ap, ◌∙◌}
use mathlib.Core.Bool.{Bool, true, false}
use mathlib.Core.List.{List, [], ◌∷◌, ◌++◌, map}
use Prim.Native.Nat.{ℕ, suc, ◌+◌, ◌-◌, ◌≤◌, ◌<◌}
use native.Mathlib.Numerals.{add-one}
use native.Mathlib.Omega.{arith}
use lib.Dec.{leb}
use lib.IntN.{ℤ}
use lib.ListN.{length, get_or}
use lib.Seq.{slice}
use borrow.Author.Tests.{eq-eqb, ne_eqb, leb-true, leb-false}
use Rattle.base.specs.Lists.{filter, keep, is_in, concat, range}
use Rattle.base.proofs.Lists.{length-filter-le, length-range, in_get, filter_in}
use Rattle.matrix.specs.Matrix.{Matrix, columns_of, values_of, lookup, entry, ascending, is_matrix}
use Rattle.matrix.specs.Code.Checks.{RowIn}
use Rattle.matrix.proofs.Matrix.{matrix_facts, column-low}
use Rattle.matrix.proofs.Ascending.{ascending_tail}
use Rattle.matrix.proofs.Checks.{matrix_tidy}
use Rattle.matrix.proofs.Rows.{columns-part, values-part, columns-in, values_in}
use Rattle.matrix.proofs.Symmetry.{row_lengths}
use Rattle.market.specs.Parse.{Triplet, triplet}
use Rattle.market.specs.Text.{column_of, lower}
use Rattle.base.proofs.Pieces.{map-members}
use Rattle.writer.specs.Code.Puts.{from_diagonal, Row}
use Rattle.market.proofs.Lower.Columns.{first_below, columns_among, column-is-row}
use Rattle.writer.proofs.rows.Entries.{before_diagonal, from-diagonal}

-- the entries from the diagonal on, by their columns
diagonal_lookup : (j : ℕ) (cs : List ℕ) (vs : List ℤ) → ascending cs ≡ true → length cs ≡ length vs → map (λ i. triplet i j (lookup i cs vs)) (filter (leb j) cs) ≡ from_diagonal j cs vs
unfolding from_diagonal lookup
diagonal_lookup j [] vs a e = refl
diagonal_lookup j (c ∷ cs) [] a e = absurd (omega arith)
diagonal_lookup j (c ∷ cs) (v ∷ vs) a e = go (leb j c) refl (later ∙ diagonal_lookup j cs vs (ascending_tail c cs a) (omega arith))
  where
    later : map (λ i. triplet i j (lookup i (c ∷ cs) (v ∷ vs))) (filter (leb j) cs) ≡ map (λ i. triplet i j (lookup i cs vs)) (filter (leb j) cs)
    later = map-members (λ i. triplet i j (lookup i (c ∷ cs) (v ∷ vs))) (λ i. triplet i j (lookup i cs vs)) (filter (leb j) cs) (λ i h. rw (ne_eqb i c (λ (z : i ≡ c). omega (arith, first_below c cs i a (filter_in (leb j) cs i h)))))

    go : (b : Bool) → leb j c ≡ b → map (λ i. triplet i j (lookup i (c ∷ cs) (v ∷ vs))) (filter (leb j) cs) ≡ from_diagonal j cs vs
        → map (λ i. triplet i j (lookup i (c ∷ cs) (v ∷ vs))) (keep b c (filter (leb j) cs)) ≡ from_diagonal j (c ∷ cs) (v ∷ vs)
    go true t ih = rw (from-diagonal j c v (leb-true j c t), eq-eqb c c refl) (ap (λ (l : List Triplet). triplet c j v ∷ l) ih)
    go false t ih = rw (before_diagonal j c v (leb-false j c t)) ih

module _ (m : Matrix) where
  -- the entries of the columns from j on
  unfoldable pub lower_left : ℕ → List Triplet
  lower_left j = concat (map (column_of m) (range j (m.n - j)))

  pub left-first : lower_left 0 ≡ lower m
  unfolding lower_left lower
  left-first = let e : m.n - 0 ≡ m.n = omega arith in rw e

  pub left_end : (j : ℕ) → m.n ≤ j → lower_left j ≡ []
  unfolding lower_left
  left_end j h = let e : m.n - j ≡ 0 = omega arith in rw e

module _ (m : Matrix) (ok : is_matrix m ≡ true) where
  -- column j on and below the diagonal is row j from the diagonal on
  column-from_diagonal : (j : ℕ) → j < m.n → column_of m j ≡ from_diagonal j (columns_of m j) (values_of m j)
  unfolding entry
  column-from_diagonal j l = column-is-row m ok j l ∙ diagonal_lookup j (columns_of m j) (values_of m j) ((matrix_facts m ok).row j l).ascends (row_lengths m (matrix_tidy m ok).shape j l refl refl)

  left-next : (j : ℕ) → j < m.n → lower_left m j ≡ from_diagonal j (columns_of m j) (values_of m j) ++ lower_left m (j + 1)
  unfolding lower_left
  left-next j l =
      let e : m.n - j ≡ suc (m.n - (j + 1)) = omega arith in
      rw (e, column-from_diagonal j l, add-one j)

  -- ---- row j in the lists

  module _ (j : ℕ) (l : j < m.n) where
    -- it lies inside both lists
    pub row-starts-inside : RowIn m.starts (length m.columns) j
    row-starts-inside = columns-in m (matrix_tidy m ok).shape j l

    pub row-values-inside : RowIn m.starts (length m.values) j
    row-values-inside = values_in m (matrix_tidy m ok).shape j l

    -- it is within limits
    row_within : Row j (columns_of m j) (values_of m j)
    row_within =
        let few = (matrix_facts m ok).few in
        record {
          low = omega arith;
          beside = row_lengths m (matrix_tidy m ok).shape j l refl refl;
          few = omega (arith, ap length (columns_among m ok j l), length-filter-le (is_in (columns_of m j)) (range 0 m.n), length-range 0 m.n);
          columns = λ k h. omega (arith, column-low m ok j (get_or (columns_of m j) k 0) (in_get (columns_of m j) k h));
        }

    -- as the code takes it from the lists
    module _ {cs : List ℕ} {vs : List ℤ} (ec : cs ≡ slice (get_or m.starts j 0) (get_or m.starts (j + 1) 0) m.columns) (ev : vs ≡ slice (get_or m.starts j 0) (get_or m.starts (j + 1) 0) m.values) where
      pub row-taken : Row j cs vs
      row-taken = rw (ec, ← columns-part m j l, ev, ← values-part m j l) row_within

      pub left-taken : lower_left m j ≡ from_diagonal j cs vs ++ lower_left m (j + 1)
      left-taken = left-next j l ∙ rw (ec, ← columns-part m j l, ev, ← values-part m j l)
