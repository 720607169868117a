-- The full rows of a matrix's entries on and below the diagonal are the matrix's rows.
use mathlib.Core.Path.{◌≡◌, refl, ap, ◌∙◌}
use mathlib.Core.Bool.{Bool, true, false, not, cond}
use mathlib.Core.List.{[], ◌∷◌, map}
use Prim.Native.Nat.{ℕ, ◌<◌}
use native.Mathlib.Omega.{arith}
use lib.Dec.{leb}
use borrow.Author.Tests.{leb-false, le-leb}
use Rattle.base.specs.Lists.{keep, is_in, is_empty}
use Rattle.matrix.specs.Matrix.{Matrix, columns_of, entry, is_matrix}
use Rattle.matrix.proofs.Matrix.{symmetric}
use Rattle.market.specs.Parse.{triplet}
use Rattle.market.specs.FullRows.{cell, row_of}
use Rattle.market.specs.Text.{lower}
use Rattle.market.proofs.FullRows.{row-of-cells}
use Rattle.market.proofs.Cells.{stored_at, first, cell-is}
use Rattle.market.proofs.Lower.Columns.{columns_among, stored-both}
use Rattle.market.proofs.Lower.At.{lower_at, lower-stored}

module _ (m : Matrix) (ok : is_matrix m ≡ true) where
  -- what is stored for (i, j), of one place or the other
  lower-both : (i j : ℕ) → i < m.n → j < m.n → (r c : ℕ) × (stored_at (lower m) i j ≡ keep (is_in (columns_of m i) j) (triplet r c (entry m i j)) [])
  unfolding stored_at
  lower-both i j li lj = go (leb j i) refl
    where
      go : (b : Bool) → leb j i ≡ b → (r c : ℕ) × (stored_at (lower m) i j ≡ keep (is_in (columns_of m i) j) (triplet r c (entry m i j)) [])
      go true t = (i, j, rw (t, lower_at m i j li lj, t))
      go false t = let h = leb-false j i t in (j, i, rw (t, lower_at m j i lj li, le-leb i j (omega arith), stored-both m ok j i, symmetric m ok j i))

  -- the cell (i, j) has the entry if it is stored
  cell-lower : (i j : ℕ) → i < m.n → j < m.n → cell (lower m) i j ≡ cond (is_in (columns_of m i) j) (triplet i j (entry m i j) ∷ []) []
  cell-lower i j li lj = let (r, c, e) = lower-both i j li lj in cell-is (lower-stored m ok) i j li lj ∙ rw e (go (is_in (columns_of m i) j) r c)
    where
      go : (b : Bool) (r c : ℕ) → cond (not (is_empty (keep b (triplet r c (entry m i j)) []))) (triplet i j (first (keep b (triplet r c (entry m i j)) [])) ∷ []) [] ≡ cond b (triplet i j (entry m i j) ∷ []) []
      go true r c = refl
      go false r c = refl

  -- row i
  pub row-lower : (i : ℕ) → i < m.n → row_of m.n (lower m) i ≡ map (λ j. triplet i j (entry m i j)) (columns_of m i)
  row-lower i h =
      row-of-cells m.n (lower m) i (is_in (columns_of m i)) (entry m i) (λ j l. cell-lower i j h l) ∙ ap (map (λ j. triplet i j (entry m i j))) (columns_among m ok i h)
