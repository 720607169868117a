-- No sum passes 64 bits: it is a sum of different terms of one row of the product.
use mathlib.Core.Path.{◌≡◌, refl, sym, ap, ◌∙◌}
use mathlib.Core.Bool.{Bool, true, false, cond}
use mathlib.Core.List.{List, [], ◌∷◌}
use Prim.Native.Nat.{ℕ, zero, suc, ◌+◌, ◌*◌, ◌^◌, ◌≤◌, ◌<◌}
use native.Mathlib.Omega.{arith}
use lib.ListN.{take}
use lib.Dec.{eqb}
use lib.IntN.{ℤ, pos, nat_abs, ◌+ℤ◌, ◌*ℤ◌}
use Rattle.base.specs.Lists.{sum_below}
use Rattle.base.specs.Integers.{sumℤ, fits64}
use Rattle.base.proofs.Integers.{abs-add, abs-mul-le, fits_magnitude}
use Rattle.base.proofs.Sums.{sum_same, sum-below-le, sum-below_bound, pos_sum, abs-sum}
use Rattle.matrix.specs.Limits.{max_rows, max_value, max_displacement}
use Rattle.run.specs.Updates.{Update}
use Rattle.run.proofs.Amounts.{landed_by, landed}

-- |z| as an integer
abbrev pub magnitude : ℤ → ℤ
magnitude z = pos (nat_abs z)

-- the sum of |amount| over the updates with target t
unfoldable mass : ℕ → List Update → ℕ
mass t [] = 0
mass t (u ∷ us) = cond (eqb u.target t) (nat_abs u.amount) 0 + mass t us

mass_landed : (t : ℕ) (us : List Update) → landed_by magnitude t us ≡ pos (mass t us)
unfolding landed_by mass
mass_landed t [] = refl
mass_landed t (u ∷ us) = rw (mass_landed t us) (go (eqb u.target t))
  where
    go : (b : Bool) → cond b (pos (nat_abs u.amount)) (pos 0) +ℤ pos (mass t us) ≡ pos (cond b (nat_abs u.amount) 0 + mass t us)
    go true = refl
    go false = refl

abs-share : (b : Bool) (a : ℤ) → nat_abs (cond b a (pos 0)) ≡ cond b (nat_abs a) 0
abs-share true a = refl
abs-share false a = refl

-- any first updates
abs_landed : (t k : ℕ) (us : List Update) → nat_abs (landed t (take k us)) ≤ mass t us
unfolding landed_by mass
abs_landed t zero us = omega arith
abs_landed t (suc k) [] = omega arith
abs_landed t (suc k) (u ∷ us) =
    omega (arith, abs-add (cond (eqb u.target t) u.amount (pos 0)) (landed t (take k us)), abs-share (eqb u.target t) u.amount, abs_landed t k us)

-- where all amounts with target t are n terms |a i * x i|, any first updates of each worker make a sum of 64 bits
pub fitting : (W n t : ℕ) (U : ℕ → List Update) (a x : ℕ → ℤ) → n ≤ max_rows
    → ((i : ℕ) → nat_abs (a i) ≤ max_value) → ((i : ℕ) → nat_abs (x i) ≤ max_displacement)
    → sumℤ (λ w. landed_by magnitude t (U w)) W ≡ sumℤ (λ i. magnitude (a i *ℤ x i)) n
    → (k : ℕ → ℕ) → fits64 (sumℤ (λ w. landed t (take (k w) (U w))) W) ≡ true
fitting W n t U a x few ha hx e k =
    let e₁ : sumℤ (λ w. landed_by magnitude t (U w)) W ≡ pos (sum_below (λ w. mass t (U w)) W) =
    sum_same (λ w. landed_by magnitude t (U w)) (λ w. pos (mass t (U w))) W (λ w l. mass_landed t (U w)) ∙ pos_sum (λ w. mass t (U w)) W in
    let e₂ : sumℤ (λ i. magnitude (a i *ℤ x i)) n ≡ pos (sum_below (λ i. nat_abs (a i *ℤ x i)) n) = pos_sum (λ i. nat_abs (a i *ℤ x i)) n in
    let e₃ : sum_below (λ w. mass t (U w)) W ≡ sum_below (λ i. nat_abs (a i *ℤ x i)) n = ap nat_abs (sym e₁ ∙ e ∙ e₂) in
    let b₁ : sum_below (λ i. nat_abs (a i *ℤ x i)) n ≤ n * (max_value * max_displacement) = sum-below_bound (λ i. nat_abs (a i *ℤ x i)) n (max_value * max_displacement) (λ i l. abs-mul-le (a i) (x i) (ha i) (hx i)) in
    let b₂ = abs-sum (λ w. landed t (take (k w) (U w))) W in
    let b₃ : sum_below (λ w. nat_abs (landed t (take (k w) (U w)))) W ≤ sum_below (λ w. mass t (U w)) W = sum-below-le (λ w. nat_abs (landed t (take (k w) (U w)))) (λ w. mass t (U w)) W (λ w l. abs_landed t (k w) (U w)) in
    fits_magnitude (sumℤ (λ w. landed t (take (k w) (U w))) W) (omega arith)
