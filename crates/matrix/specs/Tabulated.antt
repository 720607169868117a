-- A matrix made from its entries: which of them are stored, and their values.
use Rattle.std.specs.Prelude.{Bool, List, map, ℕ, suc, ℤ, length}
use Rattle.base.specs.Lists.{filter, concat, range, sum_below}
use Rattle.matrix.specs.Matrix.{Matrix}

-- the columns that row i stores, ascending
unfoldable pub columns_in : (n : ℕ) (stored : ℕ → ℕ → Bool) → ℕ → List ℕ
columns_in n stored i = filter (stored i) (range 0 n)

-- "The matrix is held in full rows: row starts (the first is 0), ascending columns, values"
unfoldable pub tabulated : (n : ℕ) (stored : ℕ → ℕ → Bool) (value : ℕ → ℕ → ℤ) → Matrix
tabulated n stored value = record {
  n = n;
  starts = map (sum_below (λ i. length (columns_in n stored i))) (range 0 (suc n));
  columns = concat (map (columns_in n stored) (range 0 n));
  values = concat (map (λ i. map (value i) (columns_in n stored i)) (range 0 n));
}
