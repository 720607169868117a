-- How many entries are written: as many as stand on and below the diagonal.
use mathlib.Core.Path.{◌≡◌, refl, sym, ap, ◌∙◌}
use mathlib.Core.Bool.{Bool, true, false, ◌&&◌, and_comm}
use mathlib.Core.List.{[]}
use Prim.Native.Nat.{ℕ, ◌≤◌, ◌<◌}
use native.Mathlib.Omega.{arith}
use lib.Dec.{leb}
use lib.ListN.{length}
use Rattle.base.specs.Lists.{filter, keep, is_in, range, sum_below, bit}
use Rattle.base.proofs.Lists.{filter-filter}
use Rattle.base.proofs.Sums.{sum-below-same}
use Rattle.matrix.specs.Matrix.{Matrix, columns_of, entry, is_matrix, lower_entries}
use Rattle.matrix.specs.Limits.{max_entries}
use Rattle.matrix.proofs.Matrix.{matrix_facts}
use Rattle.market.specs.Parse.{Triplet, triplet}
use Rattle.market.specs.Text.{lower}
use Rattle.base.proofs.Pieces.{length-filter-range}
use Rattle.market.proofs.Accepted.{stored_inner}
use Rattle.market.proofs.FullCount.{at, cells_count}
use Rattle.market.proofs.Lower.Columns.{columns_among}
use Rattle.market.proofs.Lower.At.{lower_at, lower-stored}

module _ (m : Matrix) (ok : is_matrix m ≡ true) where
  -- of one row
  count-row : (i : ℕ) → i < m.n → sum_below (at (lower m) i) m.n ≡ length (filter (λ j. leb j i) (columns_of m i))
  count-row i l =
      let stored = is_in (columns_of m i) in
      sum-below-same (at (lower m) i) (λ j. bit (stored j && leb j i)) m.n
      (λ j k. ap length (lower_at m i j l k) ∙ one (leb j i && stored j) (triplet i j (entry m i j)) ∙ ap bit (and_comm (leb j i) (stored j)))
      ∙ sym (length-filter-range (λ j. stored j && leb j i) m.n) ∙ ap length (sym (filter-filter stored (λ j. leb j i) (range 0 m.n)) ∙ ap (filter (λ j. leb j i)) (columns_among m ok i l))
    where
      one : (b : Bool) (e : Triplet) → length (keep b e []) ≡ bit b
      one true e = refl
      one false e = refl

  pub length-lower : length (lower m) ≡ lower_entries m
  unfolding lower_entries
  length-lower =
      sym (cells_count m.n (lower m) (stored_inner (lower-stored m ok)))
      ∙ sum-below-same (λ i. sum_below (at (lower m) i) m.n) (λ i. length (filter (λ j. leb j i) (columns_of m i))) m.n count-row

  pub lower-few : length (lower m) ≤ max_entries
  lower-few = omega (arith, length-lower, (matrix_facts m ok).lower)
