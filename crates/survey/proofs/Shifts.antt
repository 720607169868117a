-- What a shift adds to a force, and that it is at most the amount.
use mathlib.Core.Path.{◌≡◌, sym, ap, ◌∙◌}
use mathlib.Core.List.{List}
use Prim.Native.Nat.{ℕ, zero, suc, ◌*◌, ◌≤◌, ◌<◌}
use native.Mathlib.Nat.{zero-mul, mul_comm, mul-le-mul_right}
use native.Mathlib.Omega.{arith}
use lib.IntN.{ℤ, pos, negsuc, nat_abs, ◌+ℤ◌, ◌-ℤ◌, ◌*ℤ◌, +ℤ_comm, +ℤ-neg_ℤ_cancel, *ℤ-zero}
use lib.ListN.{length}
use Rattle.base.specs.Integers.{sumℤ}
use Rattle.base.proofs.Fill.{length-made}
use Rattle.base.proofs.Integers.{abs_neg, abs-mul, times-sum}
use Rattle.base.proofs.Lists.{map-range-zero}
use Rattle.base.proofs.Sums.{sum_same, sum-add, abs-sum, pos_sum, sum-below-le, sum-below-times}
use Rattle.matrix.specs.Matrix.{Matrix, entry, displacement}
use Rattle.matrix.specs.Product.{force_at}
use Rattle.survey.specs.Survey.{after_shift, amount, with_sign, farthest}
use Rattle.survey.specs.SurveyError.{moved_by}

-- the displacement of row j after a shift
pub shifted_at : (n : ℕ) (x shift : List ℤ) (j : ℕ) → j < n → displacement (after_shift n x shift) j ≡ displacement x j +ℤ displacement shift j
unfolding displacement after_shift
shifted_at n x shift j l = map-range-zero (λ j. displacement x j +ℤ displacement shift j) n j (pos 0) l

pub shifted-long : (n : ℕ) (x shift : List ℤ) → length (after_shift n x shift) ≡ n
unfolding after_shift
shifted-long n x shift = length-made (λ j. displacement x j +ℤ displacement shift j) x n

-- ---- the force after a shift

module _ (m : Matrix) (x shift : List ℤ) (i : ℕ) where
  -- a shift moves the force by the row's stiffnesses times the shift
  pub moved_sum : moved_by m x shift i ≡ sumℤ (λ j. entry m i j *ℤ displacement shift j) m.n
  unfolding moved_by force_at after_shift
  moved_sum =
      let was = sumℤ (λ j. entry m i j *ℤ displacement x j) m.n in
      let more = sumℤ (λ j. entry m i j *ℤ displacement shift j) m.n in
      let is : sumℤ (λ j. entry m i j *ℤ displacement (after_shift m.n x shift) j) m.n ≡ was +ℤ more =
      sum_same (λ j. entry m i j *ℤ displacement (after_shift m.n x shift) j) (λ j. entry m i j *ℤ displacement x j +ℤ entry m i j *ℤ displacement shift j) m.n term
      ∙ sum-add (λ j. entry m i j *ℤ displacement x j) (λ j. entry m i j *ℤ displacement shift j) m.n in
      ap (λ (z : ℤ). z -ℤ was) (is ∙ +ℤ_comm was more) ∙ +ℤ-neg_ℤ_cancel more was
    where
      term : (j : ℕ) → j < m.n → entry m i j *ℤ displacement (after_shift m.n x shift) j ≡ entry m i j *ℤ displacement x j +ℤ entry m i j *ℤ displacement shift j
      term j l = ap (λ (z : ℤ). entry m i j *ℤ z) (shifted_at m.n x shift j l) ∙ times-sum (entry m i j) (displacement x j) (displacement shift j)

  -- .. which is at most the amount
  pub moved-most : (t : ℕ) → ((j : ℕ) → nat_abs (displacement shift j) ≤ t) → nat_abs (moved_by m x shift i) ≤ amount m t i
  unfolding amount
  moved-most t h =
      rw moved_sum
      (omega (
        arith,
        abs-sum (λ j. entry m i j *ℤ displacement shift j) m.n,
        sum-below-le (λ j. nat_abs (entry m i j *ℤ displacement shift j)) (λ j. t * nat_abs (entry m i j)) m.n term,
        sum-below-times t (λ j. nat_abs (entry m i j)) m.n,
      ))
    where
      term : (j : ℕ) → j < m.n → nat_abs (entry m i j *ℤ displacement shift j) ≤ t * nat_abs (entry m i j)
      term j l = rw (abs-mul (entry m i j) (displacement shift j), mul_comm (nat_abs (entry m i j)) (nat_abs (displacement shift j))) (mul-le-mul_right (nat_abs (entry m i j)) (h j))

-- ---- the shift that is written

-- a stiffness times t with its sign
sign_product : (t : ℕ) (z : ℤ) → z *ℤ with_sign t z ≡ pos (t * nat_abs z)
unfolding with_sign
sign_product t (pos zero) = ap pos (omega arith)
sign_product t (pos (suc k)) = ap pos (mul_comm (suc k) t)
sign_product zero (negsuc k) = *ℤ-zero (negsuc k) ∙ ap pos (sym (zero-mul (suc k)))
sign_product (suc t) (negsuc k) = ap pos (mul_comm (suc k) (suc t))

pub sign_small : (t : ℕ) (z : ℤ) → nat_abs (with_sign t z) ≤ t
unfolding with_sign
sign_small t (pos zero) = omega arith
sign_small t (pos (suc k)) = omega arith
sign_small t (negsuc k) = omega (arith, abs_neg t)

module _ (m : Matrix) (t i : ℕ) where
  pub farthest_at : (j : ℕ) → j < m.n → displacement (farthest m t i) j ≡ with_sign t (entry m i j)
  unfolding displacement farthest
  farthest_at j l = map-range-zero (λ j. with_sign t (entry m i j)) m.n j (pos 0) l

  pub farthest-long : length (farthest m t i) ≡ m.n
  unfolding farthest
  farthest-long = length-made (λ j. with_sign t (entry m i j)) (farthest m t i) m.n

  -- it reaches the amount
  pub farthest_reaches : (x : List ℤ) → moved_by m x (farthest m t i) i ≡ pos (amount m t i)
  unfolding amount
  farthest_reaches x =
      moved_sum m x (farthest m t i) i
      ∙ sum_same (λ j. entry m i j *ℤ displacement (farthest m t i) j) (λ j. pos (t * nat_abs (entry m i j))) m.n (λ j l. ap (λ (z : ℤ). entry m i j *ℤ z) (farthest_at j l) ∙ sign_product t (entry m i j))
      ∙ pos_sum (λ j. t * nat_abs (entry m i j)) m.n ∙ ap pos (sum-below-times t (λ j. nat_abs (entry m i j)) m.n)
