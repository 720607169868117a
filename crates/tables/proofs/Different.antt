-- How many different numbers a list has.
use mathlib.Core.Path.{◌≡◌, refl}
use mathlib.Core.Bool.{Bool, true, false, ◌||◌}
use mathlib.Core.List.{List, [], ◌∷◌}
use Prim.Native.Nat.{ℕ, zero, suc, ◌+◌, ◌≤◌}
use native.Mathlib.Omega.{arith}
use lib.Dec.{eqb}
use lib.ListN.{length}
use borrow.Author.Tests.{eqb-true, ne_eqb}
use Rattle.base.specs.Lists.{is_in, sum_below, bit}
use Rattle.base.proofs.Sums.{sum-below-le, sum-below_bound, sum-below-add}

none_below : (v n : ℕ) → n ≤ v → sum_below (λ u. bit (eqb u v)) n ≡ 0
unfolding sum_below
none_below v zero l = refl
none_below v (suc n) l = rw (ne_eqb n v (λ e. omega arith)) (omega (arith, none_below v n (omega arith)))

-- a number is at most once among those below n
one_below : (v n : ℕ) → sum_below (λ u. bit (eqb u v)) n ≤ 1
unfolding sum_below
one_below v zero = omega arith
one_below v (suc n) = go (eqb n v) refl (one_below v n)
  where
    go : (b : Bool) → eqb n v ≡ b → sum_below (λ u. bit (eqb u v)) n ≤ 1 → sum_below (λ u. bit (eqb u v)) n + bit b ≤ 1
    go true e ih = omega (arith, eqb-true n v e, none_below v n (omega (arith, eqb-true n v e)))
    go false e ih = omega arith

bit-or : (a b : Bool) → bit (a || b) ≤ bit a + bit b
bit-or true b = omega arith
bit-or false b = omega arith

-- the numbers that are v or pass a test are at most one more than those that do
pub one_more : (v : ℕ) (f : ℕ → Bool) (n : ℕ) → sum_below (λ u. bit (eqb u v || f u)) n ≤ 1 + sum_below (λ u. bit (f u)) n
one_more v f n =
    omega (
      arith,
      one_below v n,
      sum-below-add (λ u. bit (eqb u v)) (λ u. bit (f u)) n,
      sum-below-le (λ u. bit (eqb u v || f u)) (λ u. bit (eqb u v) + bit (f u)) n (λ u l. bit-or (eqb u v) (f u)),
    )

-- the different numbers of a list are no more than its length
pub different : (n : ℕ) (xs : List ℕ) → sum_below (λ v. bit (is_in xs v)) n ≤ length xs
different n [] = omega (arith, sum-below_bound (λ v. 0) n 0 (λ v l. omega arith))
different n (x ∷ xs) = omega (arith, different n xs, one_more x (is_in xs) n)
