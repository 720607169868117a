-- Rows in order: their columns ascend, and there are as many as values.
use mathlib.Core.Path.{◌≡◌, sym, ap, ◌∙◌}
use mathlib.Core.Bool.{true}
use mathlib.Core.List.{List}
use Prim.Native.Nat.{ℕ, ◌<◌}
use lib.IntN.{ℤ}
use lib.ListN.{length}
use Rattle.base.proofs.Lists.{all-range}
use Rattle.matrix.specs.Matrix.{Matrix, columns_of, values_of}
use Rattle.matrix.specs.Code.Checks.{shaped}
use Rattle.matrix.proofs.Checks.{ordered_row, ordered}
use Rattle.matrix.proofs.Rows.{length-columns, length-values}

module _ (m : Matrix) (o : ordered m ≡ true) where
  -- row i is in order
  pub row-ordered : (i : ℕ) → i < m.n → ordered_row m i ≡ true
  unfolding ordered
  row-ordered i l = all-range (ordered_row m) m.n i o l

-- a row has as many columns as values
pub row_lengths : (m : Matrix) → shaped m ≡ true → {cs : List ℕ} {vs : List ℤ} (i : ℕ) → i < m.n → cs ≡ columns_of m i → vs ≡ values_of m i → length cs ≡ length vs
row_lengths m h i l e f = ap length e ∙ length-columns m h i l ∙ sym (length-values m h i l) ∙ ap length (sym f)
