-- The full rows of entries: each row cell by cell, and where it starts.
use mathlib.Core.Path.{◌≡◌, refl, sym, ap, ◌∙◌}
use mathlib.Core.Bool.{Bool, cond}
use mathlib.Core.List.{List, [], ◌∷◌, ◌++◌, map}
use Prim.Native.Nat.{ℕ, zero, suc, ◌+◌, ◌≤◌, ◌<◌}
use native.Mathlib.Numerals.{add-one}
use native.Mathlib.Omega.{arith}
use lib.IntN.{ℤ}
use lib.ListN.{length, get_or, length-append, length-map, get_or-append}
use Rattle.base.specs.Lists.{filter, concat, range}
use Rattle.base.proofs.Lists.{length-range}
use Rattle.base.proofs.Pieces.{pieces_same, pieces_of-filter, pieces_single}
use Rattle.market.specs.Parse.{Triplet, triplet}
use Rattle.market.specs.FullRows.{cell, row_of, rows_of, starts_from, row_starts}

-- ---- row starts

-- one start for each list, and the end
pub length-starts : (k : ℕ) (rs : List (List Triplet)) → length (starts_from k rs) ≡ suc (length rs)
unfolding starts_from
length-starts k [] = refl
length-starts k (r ∷ rs) = ap suc (length-starts (k + length r) rs)

pub length-row-starts : (n : ℕ) (es : List Triplet) → length (row_starts n es) ≡ n + 1
unfolding row_starts
length-row-starts n es = length-starts 0 (map (row_of n es) (range 0 n)) ∙ ap suc (length-map (range 0 n) (row_of n es) ∙ length-range 0 n) ∙ sym (add-one n)

-- ---- a row

-- row i of entries that have one in the cells (i, j) that pass a test, and none in the others
pub row-of-cells : (n : ℕ) (es : List Triplet) (i : ℕ) (p : ℕ → Bool) (v : ℕ → ℤ) → ((j : ℕ) → j < n → cell es i j ≡ cond (p j) (triplet i j (v j) ∷ []) []) → row_of n es i ≡ map (λ j. triplet i j (v j)) (filter p (range 0 n))
unfolding row_of
row-of-cells n es i p v h =
    pieces_same (cell es i) (λ j. cond (p j) (triplet i j (v j) ∷ []) []) 0 n (λ j a b. h j (omega arith))
    ∙ sym (pieces_of-filter p (λ j. triplet i j (v j) ∷ []) (range 0 n)) ∙ pieces_single (λ j. triplet i j (v j)) (filter p (range 0 n))

-- where piece i starts
pub starts_at : (f : ℕ → List Triplet) (k a l i : ℕ) → i ≤ l → get_or (starts_from k (map f (range a l))) i 0 ≡ k + length (concat (map f (range a i)))
unfolding starts_from
starts_at f k a zero zero h = omega arith
starts_at f k a zero (suc i) h = absurd (omega arith)
starts_at f k a (suc l) zero h = omega arith
starts_at f k a (suc l) (suc i) h = omega (arith, starts_at f (k + length (f a)) (suc a) l i (omega arith), length-append (f a) (concat (map f (range (suc a) i))))

-- ---- the lists

module _ (n : ℕ) (es : List Triplet) (xs : List ℕ) where
  -- the last row ends with all entries
  pub rows_end : get_or (row_starts n es ++ xs) n 0 ≡ length (rows_of n es)
  unfolding row_starts rows_of
  rows_end = get_or-append (row_starts n es) xs 0 n (omega (arith, length-row-starts n es)) ∙ starts_at (row_of n es) 0 0 n n (omega arith) ∙ omega arith
