-- The full rows of entries are the matrix made from what stands in their cells.
use mathlib.Core.Path.{◌≡◌, sym, ap, ◌∙◌}
use mathlib.Core.Bool.{Bool, cond}
use mathlib.Core.List.{List, [], ◌∷◌, map, map-map, map-id}
use Prim.Native.Nat.{ℕ, suc, ◌+◌, ◌<◌}
use native.Mathlib.Numerals.{add-one}
use native.Mathlib.Omega.{arith}
use lib.IntN.{ℤ}
use lib.ListN.{length, get_or, length-map}
use lib.Seq.{ext_get_or}
use Rattle.base.specs.Lists.{concat, range, sum_below}
use Rattle.base.proofs.Lists.{length-range, map-range-zero}
use Rattle.base.proofs.Pieces.{map_pieces, pieces_same, length_pieces}
use Rattle.base.proofs.Sums.{sum-below-same}
use Rattle.matrix.specs.Tabulated.{columns_in, tabulated}
use Rattle.market.specs.Parse.{Triplet, triplet}
use Rattle.market.specs.FullRows.{cell, row_of, rows_of, row_starts, columns, values, of_triplets}
use Rattle.market.proofs.FullRows.{length-row-starts, row-of-cells, starts_at}

module _ (n : ℕ) (es : List Triplet) (stored : ℕ → ℕ → Bool) (value : ℕ → ℕ → ℤ)
    (cells : (i j : ℕ) → i < n → j < n → cell es i j ≡ cond (stored i j) (triplet i j (value i j) ∷ []) []) where
  -- row i
  row_is : (i : ℕ) → i < n → row_of n es i ≡ map (λ j. triplet i j (value i j)) (columns_in n stored i)
  unfolding columns_in
  row_is i l = row-of-cells n es i (stored i) (value i) (λ j k. cells i j l k)

  row-columns : (i : ℕ) → i < n → map (λ (e : Triplet). e.column) (row_of n es i) ≡ columns_in n stored i
  row-columns i l =
      ap (map (λ (e : Triplet). e.column)) (row_is i l) ∙ map-map (λ (e : Triplet). e.column) (λ j. triplet i j (value i j)) (columns_in n stored i) ∙ map-id (columns_in n stored i)

  row-values : (i : ℕ) → i < n → map (λ (e : Triplet). e.value) (row_of n es i) ≡ map (value i) (columns_in n stored i)
  row-values i l = ap (map (λ (e : Triplet). e.value)) (row_is i l) ∙ map-map (λ (e : Triplet). e.value) (λ j. triplet i j (value i j)) (columns_in n stored i)

  row-length : (i : ℕ) → i < n → length (row_of n es i) ≡ length (columns_in n stored i)
  row-length i l = ap length (row_is i l) ∙ length-map (columns_in n stored i) (λ j. triplet i j (value i j))

  -- the three lists
  starts-same : row_starts n es ≡ map (sum_below (λ i. length (columns_in n stored i))) (range 0 (suc n))
  unfolding row_starts
  starts-same =
      ext_get_or 0 (row_starts n es) made (length-row-starts n es ∙ add-one n ∙ sym size) at
    where
      made : List ℕ
      made = map (sum_below (λ i. length (columns_in n stored i))) (range 0 (suc n))

      size : length made ≡ suc n
      size = length-map (range 0 (suc n)) (sum_below (λ i. length (columns_in n stored i))) ∙ length-range 0 (suc n)

      at : (i : ℕ) → i < length (row_starts n es) → get_or (row_starts n es) i 0 ≡ get_or made i 0
      at i l =
          let k : i < suc n = omega (arith, length-row-starts n es) in
          let begun : 0 + length (concat (map (row_of n es) (range 0 i))) ≡ length (concat (map (row_of n es) (range 0 i))) = omega arith in
          starts_at (row_of n es) 0 0 n i (omega arith) ∙ begun ∙ length_pieces (row_of n es) i
          ∙ sum-below-same (λ c. length (row_of n es c)) (λ c. length (columns_in n stored c)) i (λ c m. row-length c (omega arith))
          ∙ sym (map-range-zero (sum_below (λ i. length (columns_in n stored i))) (suc n) i 0 k)

  columns-same : columns n es ≡ concat (map (columns_in n stored) (range 0 n))
  unfolding columns rows_of
  columns-same =
      map_pieces (λ (e : Triplet). e.column) (row_of n es) (range 0 n)
      ∙ pieces_same (λ i. map (λ (e : Triplet). e.column) (row_of n es i)) (columns_in n stored) 0 n (λ i a b. row-columns i (omega arith))

  values_same : values n es ≡ concat (map (λ i. map (value i) (columns_in n stored i)) (range 0 n))
  unfolding values rows_of
  values_same =
      map_pieces (λ (e : Triplet). e.value) (row_of n es) (range 0 n)
      ∙ pieces_same (λ i. map (λ (e : Triplet). e.value) (row_of n es i)) (λ i. map (value i) (columns_in n stored i)) 0 n (λ i a b. row-values i (omega arith))

  pub text-table : of_triplets n es ≡ tabulated n stored value
  unfolding of_triplets tabulated
  text-table = rw (starts-same, columns-same, values_same)
