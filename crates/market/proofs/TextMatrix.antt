-- The full rows of an accepted text's entries are a matrix.
use mathlib.Core.Path.{◌≡◌, ap, ◌∙◌}
use mathlib.Core.Bool.{Bool, true, false, not, ◌&&◌, cond}
use mathlib.Core.List.{List, [], ◌∷◌}
use Prim.Native.Nat.{ℕ, ◌≤◌}
use native.Mathlib.Omega.{arith}
use lib.Dec.{leb}
use lib.IntN.{ℤ, nat_abs}
use lib.ListN.{length}
use borrow.Author.Tests.{le-leb}
use Rattle.base.specs.Lists.{filter, is_empty, sum_below, bit}
use Rattle.base.specs.Integers.{within}
use Rattle.base.proofs.Booleans.{and_false}
use Rattle.base.proofs.Each.{each_map}
use Rattle.base.proofs.Sums.{sum-below-le}
use Rattle.matrix.specs.Limits.{max_entries, max_value}
use Rattle.matrix.specs.Matrix.{lower_entries, is_matrix}
use Rattle.matrix.specs.Tabulated.{tabulated}
use Rattle.matrix.proofs.Tabulated.{tab_lower, tab_matrix}
use Rattle.market.specs.Parse.{Triplet, is_at}
use Rattle.market.specs.FullRows.{of_triplets}
use Rattle.market.proofs.Accepted.{Accepted}
use Rattle.market.proofs.FullCount.{at, cells_count}
use Rattle.market.proofs.Stored.{fits-inside}
use Rattle.market.proofs.Cells.{stored_at, stored-both, has, value_at, first, first-each, cell-is}
use Rattle.market.proofs.Table.{text-table}

module _ {n : ℕ} {es : List Triplet} (a : Accepted n es) where
  pub text-is : of_triplets n es ≡ tabulated n (has es) (value_at es)
  text-is = text-table n es (has es) (value_at es) (λ i j l k. cell-is a.stored i j l k)

  small-value : (i j : ℕ) → within max_value (value_at es i j) ≡ true
  unfolding within
  small-value i j =
      le-leb (nat_abs (value_at es i j)) max_value (first-each (λ (z : ℤ). nat_abs z ≤ max_value) (omega arith) es (each_map _ (λ (e : Triplet). nat_abs e.value ≤ max_value) (λ e f. (fits-inside n e f).small) es a.stored.fits) i j)

  -- a cell on or below the diagonal that is stored has an entry
  low-cell : (i j : ℕ) → bit (has es i j && leb j i) ≤ at es i j
  unfolding stored_at
  low-cell i j = go (leb j i) (filter (is_at i j) es)
    where
      go : (b : Bool) (xs : List Triplet) → bit (not (is_empty (cond b xs (filter (is_at j i) es))) && b) ≤ length xs
      go true [] = omega arith
      go true (x ∷ xs) = omega arith
      go false xs = rw (and_false (not (is_empty (filter (is_at j i) es)))) (omega arith)

  few-low : lower_entries (tabulated n (has es) (value_at es)) ≤ max_entries
  few-low =
      omega (
        arith,
        a.count,
        cells_count n es a.inner,
        tab_lower n (has es) (value_at es),
        sum-below-le (λ i. sum_below (λ j. bit (has es i j && leb j i)) n) (λ i. sum_below (at es i) n) n
            (λ i l. sum-below-le (λ j. bit (has es i j && leb j i)) (at es i) n (λ j k. low-cell i j)),
      )

  -- the full rows are a matrix
  pub text-matrix : is_matrix (of_triplets n es) ≡ true
  text-matrix =
      rw text-is
      (tab_matrix (record {
        some = a.some;
        few = a.rows;
        both = λ i j l k s. ap (λ (xs : List Triplet). not (is_empty xs)) (stored-both es j i) ∙ s;
        equal = λ i j. ap first (stored-both es i j);
        small = λ i j l k s. small-value i j;
        lower = few-low;
      }))
