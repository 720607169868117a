-- All workers' updates together: for each sum they are the terms of its row of the product.
use mathlib.Core.Path.{◌≡◌, refl, sym, ap, ◌∙◌}
use mathlib.Core.Bool.{true}
use mathlib.Core.List.{◌++◌, append-nil}
use Prim.Native.Nat.{ℕ, zero, suc, ◌+◌, ◌-◌, ◌<◌}
use native.Mathlib.Omega.{arith}
use lib.Dec.{eqb}
use lib.IntN.{ℤ, pos, ◌+ℤ◌, ◌*ℤ◌, +ℤ_assoc, +ℤ_idr}
use borrow.Author.Tests.{eq-eqb, ne_eqb}
use Rattle.base.specs.Lists.{range}
use Rattle.base.specs.Integers.{sumℤ}
use Rattle.base.proofs.Sums.{sum_same, sum_more, sum-zero}
use Rattle.matrix.specs.Matrix.{entry, displacement, is_matrix}
use Rattle.plan.proofs.Once.{Once}
use Rattle.run.specs.Job.{Job, row_at}
use Rattle.run.specs.Updates.{entry_at, displacement_at, row_updates, owner, when, up_to, updates}
use Rattle.run.proofs.Amounts.{landed_by, landed_append}
use Rattle.run.proofs.OrderSums.{sum_list, sum_on, sum-order}
use Rattle.run.proofs.RowShares.{term, earlier, own_row, after_none}

module _ (φ : ℤ → ℤ) (φ0 : φ (pos 0) ≡ pos 0) (j : Job) where
  -- a row's updates are one worker's: those of all workers before position e are those of the rows
  by_rows : (W t e : ℕ) → ((p : ℕ) → p < e → owner j p < W) → sumℤ (λ w. landed_by φ t (up_to j w e)) W ≡ sumℤ (λ p. landed_by φ t (row_updates j p)) e
  unfolding up_to sumℤ landed_by when
  by_rows W t zero h = sum-zero (λ w. pos 0) W (λ v. refl)
  by_rows W t (suc e) h =
      sum_more (λ w. landed_by φ t (up_to j w e)) (λ w. landed_by φ t (up_to j w e ++ when (eqb (owner j e) w) (row_updates j e))) (landed_by φ t (row_updates j e)) W (owner j e) (h e (omega arith))
      (rw (eq-eqb (owner j e) (owner j e) refl) (landed_append φ t (up_to j (owner j e) e) (row_updates j e)))
      (λ v d. rw (ne_eqb (owner j e) v (λ q. d (sym q))) (ap (landed_by φ t) (append-nil (up_to j v e))))
      ∙ ap (λ (z : ℤ). z +ℤ landed_by φ t (row_updates j e)) (by_rows W t e (λ p l. h p (omega arith)))

  module _ (ok : is_matrix j.matrix ≡ true) (o : Once j.matrix.n j.plan.order) where
    -- the rows after t add nothing
    all_none : (t k m : ℕ) → t < k → sum_list (λ p. landed_by φ t (row_updates j p)) (range k m) ≡ pos 0
    unfolding sum_list
    all_none t k zero l = refl
    all_none t k (suc m) l = rw (after_none φ φ0 j t k l, all_none t (suc k) m (omega arith)) refl

    -- all rows together
    by_terms : (t : ℕ) → t < j.matrix.n → sumℤ (λ p. landed_by φ t (row_updates j p)) j.matrix.n ≡ sumℤ (term φ φ0 j t) j.matrix.n
    unfolding sumℤ
    by_terms t l =
        let L : ℕ → ℤ = λ p. landed_by φ t (row_updates j p) in
        let m : ℕ = j.matrix.n - suc t in
        let e : j.matrix.n ≡ suc t + m = omega arith in
        let S : ℤ = sum_list (term φ φ0 j t) (range (suc t) m) in
        let A : ℤ = sumℤ (term φ φ0 j t) t in
        let left : sumℤ L (suc t + m) ≡ A +ℤ (term φ φ0 j t t +ℤ S) =
        sum_on L (suc t) m ∙ ap (λ (z : ℤ). sumℤ L (suc t) +ℤ z) (all_none t (suc t) m (omega arith)) ∙ +ℤ_idr (sumℤ L (suc t))
        ∙ ap (λ (z : ℤ). z +ℤ L t) (sum_same L (term φ φ0 j t) t (λ p k. earlier φ φ0 j ok o t p k l)) ∙ ap (λ (z : ℤ). A +ℤ z) (own_row φ φ0 j ok o t l) in
        let right : sumℤ (term φ φ0 j t) (suc t + m) ≡ A +ℤ (term φ φ0 j t t +ℤ S) = sum_on (term φ φ0 j t) (suc t) m ∙ +ℤ_assoc A (term φ φ0 j t t) S in
        ap (sumℤ L) e ∙ left ∙ sym right ∙ sym (ap (sumℤ (term φ φ0 j t)) e)

    -- the terms in original order
    by_order : (i : ℕ) → sumℤ (λ p. φ (entry j.matrix i (row_at j p) *ℤ displacement_at j p)) j.matrix.n ≡ sumℤ (λ k. φ (entry j.matrix i k *ℤ displacement j.displacements k)) j.matrix.n
    unfolding row_at displacement_at
    by_order i = sum-order (λ k. φ (entry j.matrix i k *ℤ displacement j.displacements k)) j.matrix.n j.plan.order o

    -- the amounts of all workers' updates with target t, put through φ
    pub total : (W t : ℕ) → ((p : ℕ) → p < j.matrix.n → owner j p < W) → t < j.matrix.n
        → sumℤ (λ w. landed_by φ t (updates j w)) W ≡ sumℤ (λ k. φ (entry j.matrix (row_at j t) k *ℤ displacement j.displacements k)) j.matrix.n
    unfolding updates entry_at
    total W t h l = by_rows W t j.matrix.n h ∙ by_terms t l ∙ by_order (row_at j t)
