-- The full rows of entries inside n have as many entries as both halves together.
use mathlib.Core.Path.{◌≡◌, refl, sym, ◌∙◌}
use mathlib.Core.Logic.{◌≢◌}
use mathlib.Core.Bool.{Bool, true, false, cond}
use mathlib.Core.List.{List, [], ◌∷◌}
use Prim.Native.Nat.{ℕ, ◌+◌}
use native.Mathlib.Omega.{arith}
use lib.Dec.{eqb}
use lib.ListN.{length}
use borrow.Author.Tests.{eq-eqb, ne_eqb}
use Rattle.base.specs.Lists.{filter, sum_below}
use Rattle.base.proofs.Booleans.{and_false}
use Rattle.base.proofs.Each.{Each, each_append}
use Rattle.base.proofs.Sums.{sum-below-zero, sum-below-same, sum-below_more}
use Rattle.market.specs.Parse.{Triplet, triplet, is_at}
use Rattle.market.specs.FullRows.{both, full, cell, row_of, rows_of}
use Rattle.base.proofs.Pieces.{length_pieces}
use Rattle.market.proofs.Accepted.{Inner}

-- how many of the entries are at (i, j)
abbrev pub at : List Triplet → (i j : ℕ) → ℕ
at xs i j = length (filter (is_at i j) xs)

module _ (n : ℕ) where
  -- each entry is in one cell
  pub cells_count : (xs : List Triplet) → Each (Inner n) xs → sum_below (λ i. sum_below (at xs i) n) n ≡ length xs
  cells_count [] a = sum-below-same (λ (i : ℕ). sum_below (λ (j : ℕ). 0) n) (λ (i : ℕ). 0) n (λ i l. sum-below-zero n) ∙ sum-below-zero n
  cells_count (x ∷ xs) a =
      sum-below_more (λ i. sum_below (at xs i) n) (λ i. sum_below (at (x ∷ xs) i) n) 1 n x.row a.0.0 own other ∙ rw (cells_count xs a.1) (omega arith)
    where
      own : sum_below (at (x ∷ xs) x.row) n ≡ sum_below (at xs x.row) n + 1
      own = sum-below_more (at xs x.row) (at (x ∷ xs) x.row) 1 n x.column a.0.1 (rw (eq-eqb x.row x.row refl, eq-eqb x.column x.column refl) (omega arith)) (λ j ne. rw (ne_eqb x.column j (λ (z : x.column ≡ j). ne (sym z)), and_false (eqb x.row x.row)))

      other : (i : ℕ) → i ≢ x.row → sum_below (at (x ∷ xs) i) n ≡ sum_below (at xs i) n
      other i ne = sum-below-same (at (x ∷ xs) i) (at xs i) n (λ j l. rw (ne_eqb x.row i (λ (z : x.row ≡ i). ne (sym z))))

  -- mirror images are inside n too
  full_inner : (es : List Triplet) → Each (Inner n) es → Each (Inner n) (full es)
  unfolding full
  full_inner [] a = tt
  full_inner (e ∷ es) a = each_append (Inner n) (both e) (full es) (go (eqb e.row e.column)) (full_inner es a.1)
    where
      go : (b : Bool) → Each (Inner n) (e ∷ cond b [] (triplet e.column e.row e.value ∷ []))
      go true = (a.0, tt)
      go false = (a.0, ((a.0.1, a.0.0), tt))

  pub length-rows : (es : List Triplet) → Each (Inner n) es → length (rows_of n es) ≡ length (full es)
  unfolding rows_of row_of cell
  length-rows es a =
      length_pieces (row_of n es) n ∙ sum-below-same (λ i. length (row_of n es i)) (λ i. sum_below (at (full es) i) n) n (λ i l. length_pieces (cell es i) n)
      ∙ cells_count (full es) (full_inner es a)
