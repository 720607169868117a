-- A worker's count fits 32 bits.
use mathlib.Core.Path.{◌≡◌, sym, subst}
use mathlib.Core.Logic.{◌⊎◌, inl, inr, ◌≢◌}
use mathlib.Core.Bool.{Bool, true, false}
use Prim.Native.Nat.{ℕ, zero, suc, ◌+◌, ◌*◌, ◌≤◌, ◌<◌, ◌^◌}
use native.Mathlib.Nat.{le_trans}
use native.Mathlib.Omega.{arith}
use Rattle.base.specs.Lists.{sum_below, bit}
use Rattle.base.proofs.Booleans.{same_or}
use Rattle.base.proofs.Sums.{sum-below_bound}
use Rattle.matrix.specs.Limits.{max_rows}
use Rattle.matrix.specs.Matrix.{Matrix, adjacent, adjacent_pairs}
use Rattle.run.specs.Job.{Job}
use Rattle.run.specs.Updates.{accesses}
use Rattle.run.specs.EveryRun.{whole_run}

-- one term of a sum
one_of : (f : ℕ → ℕ) (n w : ℕ) → w < n → f w ≤ sum_below f n
unfolding sum_below
one_of f zero w l = absurd (omega arith)
one_of f (suc n) w l = go (same_or w n) (one_of f n w)
  where
    go : (w ≡ n) ⊎ (w ≢ n) → (w < n → f w ≤ sum_below f n) → f w ≤ sum_below f n + f n
    go (inl e) ih = subst (λ (y : ℕ). f y ≤ sum_below f n + f n) (sym e) (omega arith)
    go (inr d) ih = omega (arith, ih (omega arith))

bit_le : (b : Bool) → bit b ≤ 1
bit_le true = omega arith
bit_le false = omega arith

pairs-few : (m : Matrix) → m.n ≤ max_rows → adjacent_pairs m ≤ max_rows * max_rows
unfolding adjacent_pairs
pairs-few m h =
    let P : ℕ → ℕ = λ i. sum_below (λ k. bit (adjacent m i k)) i in
    let a : (i : ℕ) → i < m.n → P i ≤ max_rows = λ i l. le_trans (sum-below_bound (λ k. bit (adjacent m i k)) i 1 (λ k x. bit_le (adjacent m i k))) (omega arith) in
    let b : sum_below P m.n ≤ m.n * max_rows = sum-below_bound P m.n max_rows a in
    omega arith

-- a worker has at most the accesses of a whole run
pub small : (j : Job) (W : ℕ) → j.matrix.n ≤ max_rows → sum_below (accesses j) W ≡ whole_run j → (w : ℕ) → w < W → accesses j w < 2 ^ 32
unfolding whole_run
small j W few e w l = omega (arith, one_of (accesses j) W w l, pairs-few j.matrix few)
