-- A row's force: the sum over its stored entries is the sum over all columns, and every number on the way fits.
use mathlib.Core.Path.{◌≡◌, refl, sym, ap, ◌∙◌}
use mathlib.Core.Logic.{◌≢◌}
use mathlib.Core.Bool.{true, ◌&&◌, cond}
use mathlib.Core.List.{List, [], ◌∷◌}
use Prim.Native.Nat.{ℕ, zero, suc, ◌+◌, ◌*◌, ◌≤◌, ◌<◌}
use native.Mathlib.Omega.{arith}
use lib.Dec.{eqb, ltb}
use lib.IntN.{ℤ, pos, nat_abs, ◌+ℤ◌, ◌*ℤ◌, +ℤ_idl, +ℤ_comm, zero-*ℤ}
use lib.ListN.{length, get_or}
use mir.Syntax.{w64}
use mir.Val.{SFits}
use borrow.Author.Tests.{ltb-true, leb-true, eq-eqb, ne_eqb}
use Rattle.base.specs.Lists.{all}
use Rattle.base.specs.Integers.{within, sumℤ}
use Rattle.base.proofs.Booleans.{and_left, and_right}
use Rattle.base.proofs.Lists.{all-get}
use Rattle.base.proofs.Sums.{sum-zero, sum_first, sum_more, abs-sum, sum-below_bound}
use Rattle.base.proofs.Integers.{abs-mul-le, fits-abs}
use Rattle.matrix.specs.Limits.{max_value, max_displacement}
use Rattle.matrix.specs.Matrix.{lookup, ascending, displacement}
use Rattle.matrix.specs.Code.Checks.{is_ordered}
use Rattle.multiply.specs.Code.Loaded.{RowOk}
use Rattle.matrix.proofs.Matrix.{lookup-none, get_d_all}
use Rattle.matrix.proofs.Ascending.{ascending_tail, ascending-first, first-once}

-- the entry at place k of a row times the displacement of its column
abbrev pub term : (cs : List ℕ) (vs x : List ℤ) → ℕ → ℤ
term cs vs x k = get_or vs k (pos 0) *ℤ displacement x (get_or cs k 0)

-- ---- the sum over the stored entries

-- each stored column is met once
pub stored-sum : (cs : List ℕ) (vs x : List ℤ) (n : ℕ) → ascending cs ≡ true → all (λ j. ltb j n) cs ≡ true
    → sumℤ (term cs vs x) (length cs) ≡ sumℤ (λ j. lookup j cs vs *ℤ displacement x j) n
unfolding lookup sumℤ
stored-sum [] vs x n h b = sym (sum-zero (λ j. pos 0 *ℤ displacement x j) n (λ j. zero-*ℤ (displacement x j)))
stored-sum (c ∷ cs) [] x n h b =
    sum-zero (term (c ∷ cs) [] x) (suc (length cs)) (λ k. zero-*ℤ (displacement x (get_or (c ∷ cs) k 0)))
    ∙ sym (sum-zero (λ j. pos 0 *ℤ displacement x j) n (λ j. zero-*ℤ (displacement x j)))
stored-sum (c ∷ cs) (v ∷ vs) x n h b =
    sum_first (term (c ∷ cs) (v ∷ vs) x) (length cs)
    ∙ +ℤ_comm (v *ℤ displacement x c) (sumℤ (term cs vs x) (length cs))
    ∙ ap (λ (z : ℤ). z +ℤ v *ℤ displacement x c) (stored-sum cs vs x n (ascending_tail c cs h) (and_right (ltb c n) (all (λ j. ltb j n) cs) b))
    ∙ sym (sum_more (λ j. lookup j cs vs *ℤ displacement x j) (λ j. lookup j (c ∷ cs) (v ∷ vs) *ℤ displacement x j) (v *ℤ displacement x c) n c below here other)
  where
    below : c < n
    below = ltb-true c n (and_left (ltb c n) (all (λ j. ltb j n) cs) b)

    here : cond (eqb c c) v (lookup c cs vs) *ℤ displacement x c ≡ lookup c cs vs *ℤ displacement x c +ℤ v *ℤ displacement x c
    here = rw (eq-eqb c c refl, lookup-none c cs vs (first-once c cs h), zero-*ℤ (displacement x c)) (sym (+ℤ_idl (v *ℤ displacement x c)))

    other : (j : ℕ) → j ≢ c → cond (eqb j c) v (lookup j cs vs) *ℤ displacement x j ≡ lookup j cs vs *ℤ displacement x j
    other j d = rw (ne_eqb j c d)

-- ---- what fits

ascending_grows : (c : ℕ) (cs : List ℕ) → ascending (c ∷ cs) ≡ true → (k : ℕ) → k < suc (length cs) → c + k ≤ get_or (c ∷ cs) k 0
ascending_grows c cs h zero l = omega arith
ascending_grows c [] h (suc k) l = absurd (omega arith)
ascending_grows c (d ∷ ds) h (suc k) l =
    omega (arith, ascending-first c (d ∷ ds) h 0 (omega arith), ascending_grows d ds (ascending_tail c (d ∷ ds) h) k (omega arith))

-- ascending columns below n are at most n
few-columns : (cs : List ℕ) (n : ℕ) → ascending cs ≡ true → all (λ j. ltb j n) cs ≡ true → length cs ≤ n
few-columns [] n h b = omega arith
few-columns (c ∷ cs) n h b =
    omega (arith, ascending_grows c cs h (length cs) (omega arith), ltb-true (get_or (c ∷ cs) (length cs) 0) n (all-get (λ j. ltb j n) (c ∷ cs) (length cs) 0 b (omega arith)))

-- what a turn at place k has and makes, each an i64
pub record Turn (cs : List ℕ) (vs x : List ℤ) (k : ℕ) : Type 0 where
  pub column : get_or cs k 0 < length x
  pub beside : k < length vs
  pub value : SFits w64 (get_or vs k (pos 0))
  pub moved : SFits w64 (get_or x (get_or cs k 0) (pos 0))
  pub product : SFits w64 (term cs vs x k)
  pub sum : SFits w64 (sumℤ (term cs vs x) k)
  pub next : SFits w64 (sumℤ (term cs vs x) k +ℤ term cs vs x k)

module _ (cs : List ℕ) (vs x : List ℤ) (ok : RowOk cs vs x) where
  ascends : ascending cs ≡ true
  unfolding is_ordered
  ascends = and_left (ascending cs) (all (λ j. ltb j (length x)) cs) (and_left (ascending cs && all (λ j. ltb j (length x)) cs) (all (within max_value) vs) ok.order)

  below : all (λ j. ltb j (length x)) cs ≡ true
  unfolding is_ordered
  below = and_right (ascending cs) (all (λ j. ltb j (length x)) cs) (and_left (ascending cs && all (λ j. ltb j (length x)) cs) (all (within max_value) vs) ok.order)

  value-small : (k : ℕ) → nat_abs (get_or vs k (pos 0)) ≤ max_value
  unfolding is_ordered within
  value-small k = leb-true (nat_abs (get_or vs k (pos 0))) max_value (get_d_all (within max_value) k vs refl (and_right (ascending cs && all (λ j. ltb j (length x)) cs) (all (within max_value) vs) ok.order))

  displacement-small : (j : ℕ) → nat_abs (displacement x j) ≤ max_displacement
  unfolding displacement within
  displacement-small j = leb-true (nat_abs (displacement x j)) max_displacement (get_d_all (within max_displacement) j x refl ok.small)

  term_small : (k : ℕ) → nat_abs (term cs vs x k) ≤ 1000000000000000
  term_small k = abs-mul-le (get_or vs k (pos 0)) (displacement x (get_or cs k 0)) (value-small k) (displacement-small (get_or cs k 0))

  sum-small : (k : ℕ) → nat_abs (sumℤ (term cs vs x) k) ≤ k * 1000000000000000
  sum-small k = omega (arith, abs-sum (term cs vs x) k, sum-below_bound (λ i. nat_abs (term cs vs x i)) k 1000000000000000 (λ i l. term_small i))

  -- the sum of k terms fits
  pub sum_fits : (k : ℕ) → k ≤ length cs → SFits w64 (sumℤ (term cs vs x) k)
  sum_fits k l = fits-abs (omega (arith, sum-small k, few-columns cs (length x) ascends below, ok.few))

  pub turn : (k : ℕ) → k < length cs → Turn cs vs x k
  unfolding displacement sumℤ
  turn k l = record {
    column = ltb-true (get_or cs k 0) (length x) (all-get (λ j. ltb j (length x)) cs k 0 below l);
    beside = omega (arith, ok.beside);
    value = fits-abs (omega (arith, value-small k));
    moved = fits-abs (omega (arith, displacement-small (get_or cs k 0)));
    product = fits-abs (omega (arith, term_small k));
    sum = sum_fits k (omega arith);
    next = sum_fits (suc k) l;
  }

  -- the whole sum is the row's force
  pub row_force : sumℤ (term cs vs x) (length cs) ≡ sumℤ (λ j. lookup j cs vs *ℤ displacement x j) (length x)
  row_force = stored-sum cs vs x (length x) ascends below
