-- The joined net from its entries on and below the diagonal, as a list: what the code gathers and hands to the sort
-- into full rows.
use mathlib.Core.Path.{◌≡◌, refl, sym, ap, ap₂, ◌∙◌}
use mathlib.Core.Bool.{Bool, true, false, ◌&&◌, cond}
use mathlib.Core.List.{List, [], ◌∷◌, map}
use Prim.Native.Nat.{ℕ, ◌≤◌, ◌<◌}
use native.Mathlib.Omega.{arith}
use lib.Dec.{eqb, ltb, leb}
use lib.IntN.{ℤ}
use lib.ListN.{length}
use borrow.Author.Tests.{leb-true, leb-false, lt-leb, lt-ltb, ltb-true}
use Rattle.base.specs.Lists.{filter, all, is_in, range, sum_below, bit, distinct}
use Rattle.base.specs.Integers.{within}
use Rattle.base.proofs.Booleans.{and_false, both_ways}
use Rattle.base.proofs.Each.{Each}
use Rattle.base.proofs.Lists.{all_of, of-all, is_in-range, range_in}
use Rattle.base.proofs.Sums.{sum-below-same, sum-below-le}
use Rattle.matrix.specs.Limits.{max_rows, max_entries, max_value}
use Rattle.matrix.specs.Matrix.{Matrix, is_matrix, lower_entries}
use Rattle.matrix.specs.Tabulated.{tabulated}
use Rattle.matrix.proofs.Tabulated.{tab_lower}
use Rattle.market.specs.Parse.{Triplet, triplet, is_at}
use Rattle.market.specs.FullRows.{cell, of_triplets}
use Rattle.market.proofs.Accepted.{Inner}
use Rattle.market.proofs.Cells.{moved, Low, cell_below, cell_above}
use Rattle.market.proofs.FullCount.{at, cells_count}
use Rattle.market.proofs.Table.{text-table}
use Rattle.joined.specs.Joined.{past_first, joined_rows, are_places, stored_in, stiffness, joined, in_limits}
use Rattle.joined.proofs.Gaps.{gapless-low, low-gapless}
use Rattle.joined.proofs.Entries.{stored-both, values-both}

-- ---- the test of places, as the code makes it

pub places_test : (a b : Matrix) (places : List ℕ) → are_places a b places ≡ eqb (length places) b.n && distinct places && all (λ p. ltb p (joined_rows a places)) places
unfolding are_places joined_rows past_first
places_test a b places = go (eqb (length places) b.n) (distinct places) refl
  where
    n : ℕ
    n = a.n

    go : (x y : Bool) → distinct places ≡ y → x && y && all (is_in places) (range n (past_first a places)) ≡ x && y && all (λ p. ltb p (joined_rows a places)) places
    go false y e = refl
    go true false e = refl
    go true true e =
        both_ways (all (is_in places) (range n (past_first a places))) (all (λ p. ltb p (joined_rows a places)) places)
        (λ h. of-all (λ p. ltb p (joined_rows a places)) places
        (λ v m. lt-ltb v (joined_rows a places) (gapless-low n places e (λ u l k. all_of (is_in places) (range n (past_first a places)) u h (is_in-range n (past_first a places) u l k)) v m)))
        (λ h. of-all (is_in places) (range n (past_first a places))
        (λ v m. let r = range_in v n (past_first a places) m in low-gapless n places e (λ u k. ltb-true u (joined_rows a places) (all_of (λ p. ltb p (joined_rows a places)) places u h k)) v r.0 r.1))

-- ---- entries on and below the diagonal

-- one for each cell there that is stored, and no other
pub record Gathered (n : ℕ) (stored : ℕ → ℕ → Bool) (value : ℕ → ℕ → ℤ) (es : List Triplet) : Type 0 where
  pub low : Each Low es
  pub inner : Each (Inner n) es
  pub cells : (i j : ℕ) → j ≤ i → i < n → filter (is_at i j) es ≡ cond (stored i j) (triplet i j (value i j) ∷ []) []

-- an entry's cell, moved to where it stands
moved-cell : (i j r c : ℕ) (b : Bool) (v : ℤ) → map (moved i j) (cond b (triplet r c v ∷ []) []) ≡ cond b (triplet i j v ∷ []) []
moved-cell i j r c true v = refl
moved-cell i j r c false v = refl

module _ {n : ℕ} {stored : ℕ → ℕ → Bool} {value : ℕ → ℕ → ℤ} {es : List Triplet} (g : Gathered n stored value es) (both : (i j : ℕ) → stored i j ≡ stored j i) (equal : (i j : ℕ) → value i j ≡ value j i) where
  all-cells : (i j : ℕ) → i < n → j < n → cell es i j ≡ cond (stored i j) (triplet i j (value i j) ∷ []) []
  all-cells i j li lj = go (leb j i) refl
    where
      go : (t : Bool) → leb j i ≡ t → cell es i j ≡ cond (stored i j) (triplet i j (value i j) ∷ []) []
      go true e =
          let l = leb-true j i e in
          cell_below i j l es g.low ∙ ap (map (moved i j)) (g.cells i j l li) ∙ moved-cell i j i j (stored i j) (value i j)
      go false e =
          let l = leb-false j i e in
          cell_above i j l es g.low ∙ ap (map (moved i j)) (g.cells j i (omega arith) lj) ∙ moved-cell i j j i (stored j i) (value j i)
          ∙ ap₂ (λ (t : Bool) (v : ℤ). cond t (triplet i j v ∷ []) []) (both j i) (equal j i)

  -- they make the matrix
  pub gathered-rows : of_triplets n es ≡ tabulated n stored value
  gathered-rows = text-table n es stored value all-cells

-- ---- how many there are

module _ (n : ℕ) (stored : ℕ → ℕ → Bool) (value : ℕ → ℕ → ℤ) (es : List Triplet) (inner : Each (Inner n) es) where
  -- some of them are no more than all
  pub gathered-few : ((i j : ℕ) → at es i j ≤ bit (stored i j && leb j i)) → length es ≤ lower_entries (tabulated n stored value)
  gathered-few h =
      omega (
        arith,
        cells_count n es inner,
        tab_lower n stored value,
        sum-below-le (λ i. sum_below (at es i) n) (λ i. sum_below (λ j. bit (stored i j && leb j i)) n) n (λ i l. sum-below-le (at es i) (λ j. bit (stored i j && leb j i)) n (λ j k. h i j)),
      )

  -- all of them are all
  pub gathered-count : ((i j : ℕ) → i < n → j < n → at es i j ≡ bit (stored i j && leb j i)) → length es ≡ lower_entries (tabulated n stored value)
  gathered-count h =
      sym (cells_count n es inner)
      ∙ sum-below-same (λ i. sum_below (at es i) n) (λ i. sum_below (λ j. bit (stored i j && leb j i)) n) n (λ i l. sum-below-same (at es i) (λ j. bit (stored i j && leb j i)) n (λ j k. h i j l k))
      ∙ sym (tab_lower n stored value)

-- ---- the limits that the code finds broken

module _ (a b : Matrix) (places : List ℕ) (oka : is_matrix a ≡ true) (okb : is_matrix b ≡ true) (h : are_places a b places ≡ true) where
  -- too many rows
  pub many-rows : max_rows < joined_rows a places → in_limits (joined a b places) ≡ false
  unfolding in_limits joined tabulated
  many-rows l = rw (lt-leb (joined_rows a places) max_rows l)

  -- one entry more than there may be
  pub many-entries : max_entries < lower_entries (joined a b places) → in_limits (joined a b places) ≡ false
  unfolding in_limits
  many-entries l = rw (lt-leb (lower_entries (joined a b places)) max_entries l) (and_false (leb (joined a b places).n max_rows && all (within max_value) (joined a b places).values))

  -- what is gathered is the joined net
  pub gathered-joined : {es : List Triplet} → Gathered (joined_rows a places) (stored_in a b places) (stiffness a b places) es → of_triplets (joined_rows a places) es ≡ joined a b places
  unfolding joined
  gathered-joined g =
      gathered-rows g (λ i j. both_ways (stored_in a b places i j) (stored_in a b places j i) (stored-both a b places oka okb h i j) (stored-both a b places oka okb h j i)) (values-both a b places oka okb h)
