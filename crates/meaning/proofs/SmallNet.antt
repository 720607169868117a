-- Every number of a matrix made from its entries has 32 bits, its values apart.
use mathlib.Core.Path.{◌≡◌}
use mathlib.Core.Bool.{Bool, true}
use mathlib.Core.List.{map}
use Prim.Native.Nat.{ℕ, zero, suc, ◌+◌, ◌≤◌, ◌<◌}
use native.Mathlib.Omega.{arith}
use lib.IntN.{ℤ}
use lib.ListN.{length, get_or}
use Rattle.base.specs.Lists.{range, sum_below}
use Rattle.base.proofs.Each.{Each}
use Rattle.base.proofs.Lists.{map-range-zero}
use Rattle.base.proofs.Sums.{sum-below-up}
use Rattle.matrix.specs.Limits.{max_rows}
use Rattle.matrix.specs.Matrix.{Matrix, is_matrix}
use Rattle.matrix.specs.Tabulated.{columns_in, tabulated}
use Rattle.matrix.proofs.Matrix.{matrix_facts}
use Rattle.matrix.proofs.Entries.{few-entries}
use Rattle.words.proofs.Codes.{Holds}
use Rattle.meaning.proofs.EachIn.{each-filter, each-range}

each_upto : (P : ℕ → Type 0) (f : ℕ → ℕ) (k n : ℕ) → ((i : ℕ) → i < k + n → P (f i)) → Each P (map f (range k n))
each_upto P f k zero h = tt
each_upto P f k (suc n) h = (h k (omega arith), each_upto P f (suc k) n (λ i l. h i (omega arith)))

low-range : (k n : ℕ) → k + n ≤ max_rows → Each (Holds 4) (range k n)
low-range k zero l = tt
low-range k (suc n) l = (omega arith, low-range (suc k) n (omega arith))

module _ (n : ℕ) (stored : ℕ → ℕ → Bool) (value : ℕ → ℕ → ℤ) (ok : is_matrix (tabulated n stored value) ≡ true) where
  abbrev made : Matrix
  made = tabulated n stored value

  pub net_starts-small : Each (Holds 4) made.starts
  unfolding tabulated
  net_starts-small =
      let f : ℕ → ℕ = λ i. length (columns_in n stored i) in
      let end : get_or (map (sum_below f) (range 0 (suc n))) n 0 ≡ sum_below f n = map-range-zero (sum_below f) (suc n) n 0 (omega arith) in
      each_upto (Holds 4) (sum_below f) 0 (suc n) (λ i l. omega (arith, sum-below-up f i n (omega arith), end, few-entries made ok))

  pub net_columns-small : Each (Holds 4) made.columns
  unfolding tabulated columns_in
  net_columns-small = each-range (Holds 4) (columns_in n stored) (λ i. each-filter (Holds 4) (stored i) (range 0 n) (low-range 0 n (omega (arith, (matrix_facts made ok).few)))) 0 n
