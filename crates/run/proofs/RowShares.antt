-- What the row at one position adds to the sum at another: the term of the product that belongs to it.
use mathlib.Core.Path.{◌≡◌, refl, sym, ap, ◌∙◌}
use mathlib.Core.Logic.{◌⊎◌, inl, inr, ◌≢◌}
use mathlib.Core.Bool.{Bool, true, false, true≢false}
use mathlib.Core.List.{List, [], ◌∷◌}
use Prim.Native.Nat.{ℕ, zero, suc, ◌+◌, ◌-◌, ◌≤◌, ◌<◌}
use native.Mathlib.Omega.{arith}
use lib.Dec.{eqb}
use lib.IntN.{ℤ, pos, ◌+ℤ◌, ◌*ℤ◌, +ℤ_idl, +ℤ_idr, zero-*ℤ}
use borrow.Author.Tests.{eqb-true, eq-eqb, ne_eqb}
use Rattle.base.specs.Lists.{is_in, range, filter, keep}
use Rattle.base.proofs.Booleans.{or_cases, or_left_false, or_right_false, clash, same_or, is_false}
use Rattle.base.proofs.Lists.{filter_in, filter-of, is_in-range, range_in}
use Rattle.matrix.specs.Matrix.{adjacent, is_matrix}
use Rattle.matrix.proofs.Matrix.{absent, symmetric}
use Rattle.plan.proofs.Once.{Once, injective}
use Rattle.run.specs.Job.{Job, row_at}
use Rattle.run.specs.Updates.{entry_at, displacement_at, later, with_each, row_updates}
use Rattle.run.proofs.Amounts.{landed_by}
use Rattle.run.proofs.OrderSums.{sum_list}

module _ (φ : ℤ → ℤ) (φ0 : φ (pos 0) ≡ pos 0) (j : Job) where
  -- what the row at p has to add to the sum at t, by the entry (t, p)
  abbrev pub term : ℕ → ℕ → ℤ
  term t p = φ (entry_at j t p *ℤ displacement_at j p)

  -- .. and what it adds, by the entry (p, t)
  abbrev back : ℕ → ℕ → ℤ
  back p t = φ (entry_at j p t *ℤ displacement_at j p)

  abbrev near : ℕ → ℕ → Bool
  near p q = adjacent j.matrix (row_at j p) (row_at j q)

  -- a row that is not at t and has not t among qs
  others-none : (p t : ℕ) (qs : List ℕ) → p ≢ t → is_in qs t ≡ false → landed_by φ t (with_each j p qs) ≡ pos 0
  unfolding landed_by with_each
  others-none p t [] d h = refl
  others-none p t (q ∷ qs) d h =
      rw (ne_eqb p t d, ne_eqb q t (λ e. clash (eq-eqb t q (sym e)) (or_left_false (eqb t q) (is_in qs t) h)), others-none p t qs d (or_right_false (eqb t q) (is_in qs t) h)) refl

  -- no number below k is in a part of k, k + 1, ..
  low-none : (P : ℕ → Bool) (k m t : ℕ) → t < k → is_in (filter P (range k m)) t ≡ false
  low-none P k m t l = is_false (λ e. absurd (omega (arith, (range_in t k m (filter_in P (range k m) t e)).0)))

  -- a row that has t among qs
  others-one : (p t : ℕ) (P : ℕ → Bool) (k m : ℕ) → p ≢ t → is_in (filter P (range k m)) t ≡ true → landed_by φ t (with_each j p (filter P (range k m))) ≡ back p t
  unfolding landed_by with_each
  others-one p t P k zero d h = absurd (true≢false (sym h))
  others-one p t P k (suc m) d h = go (P k) refl (same_or k t) h (others-one p t P (suc k) m d)
    where
      rest : List ℕ
      rest = filter P (range (suc k) m)

      go : (b : Bool) → P k ≡ b → (k ≡ t) ⊎ (k ≢ t) → is_in (keep b k rest) t ≡ true → (is_in rest t ≡ true → landed_by φ t (with_each j p rest) ≡ back p t)
          → landed_by φ t (with_each j p (keep (P k) k rest)) ≡ back p t
      go true e (inl q) x ih =
          rw (e, ne_eqb p t d, eq-eqb k t q, others-none p t rest d (low-none P (suc k) m t (omega arith)))
          (+ℤ_idl (back p k +ℤ pos 0) ∙ +ℤ_idr (back p k) ∙ ap (back p) q)
      go true e (inr q) x ih =
          rw (e, ne_eqb p t d, ne_eqb k t q, ih (x' (or_cases (eqb t k) (is_in rest t) x))) (+ℤ_idl (pos 0 +ℤ back p t) ∙ +ℤ_idl (back p t))
        where
          x' : (eqb t k ≡ true) ⊎ (is_in rest t ≡ true) → is_in rest t ≡ true
          x' (inl y) = absurd (q (sym (eqb-true t k y)))
          x' (inr y) = y
      go false e o x ih = rw e (ih x)

  -- the row at t
  own-each : (t : ℕ) (P : ℕ → Bool) (k m : ℕ) → t < k → ((q : ℕ) → k ≤ q → q < k + m → P q ≡ false → term t q ≡ pos 0)
      → landed_by φ t (with_each j t (filter P (range k m))) ≡ sum_list (term t) (range k m)
  unfolding landed_by with_each sum_list
  own-each t P k zero l h = refl
  own-each t P k (suc m) l h = go (P k) refl (own-each t P (suc k) m (omega arith) (λ q a b. h q (omega arith) (omega arith)))
    where
      rest : List ℕ
      rest = filter P (range (suc k) m)

      go : (b : Bool) → P k ≡ b → landed_by φ t (with_each j t rest) ≡ sum_list (term t) (range (suc k) m)
          → landed_by φ t (with_each j t (keep (P k) k rest)) ≡ term t k +ℤ sum_list (term t) (range (suc k) m)
      go true e ih =
          rw (e, eq-eqb t t refl, ne_eqb k t (λ q. omega arith), ih) (ap (λ (z : ℤ). term t k +ℤ z) (+ℤ_idl (sum_list (term t) (range (suc k) m))))
      go false e ih = rw (e, ih, h k (omega arith) (omega arith) e) (sym (+ℤ_idl (sum_list (term t) (range (suc k) m))))

  -- a row after t adds nothing
  pub after_none : (t p : ℕ) → t < p → landed_by φ t (row_updates j p) ≡ pos 0
  unfolding landed_by row_updates later
  after_none t p l =
      rw (ne_eqb p t (λ e. omega arith), others-none p t (filter (near p) (range (suc p) (j.matrix.n - suc p))) (λ e. omega arith) (low-none (near p) (suc p) (j.matrix.n - suc p) t (omega arith))) refl

  module _ (ok : is_matrix j.matrix ≡ true) (o : Once j.matrix.n j.plan.order) where
    back_term : (p t : ℕ) → back p t ≡ term t p
    unfolding entry_at
    back_term p t = ap (λ (z : ℤ). φ (z *ℤ displacement_at j p)) (symmetric j.matrix ok (row_at j p) (row_at j t))

    -- the entry of rows that are not adjacent
    no-entry : (p q : ℕ) → p < j.matrix.n → q < j.matrix.n → p ≢ q → near p q ≡ false → entry_at j p q ≡ pos 0
    unfolding entry_at adjacent row_at
    no-entry p q a b d h = absent j.matrix (row_at j p) (row_at j q) (injective j.matrix.n j.plan.order o p q a b d) h

    no-product : (p q : ℕ) (x : ℤ) → p < j.matrix.n → q < j.matrix.n → p ≢ q → near p q ≡ false → φ (entry_at j p q *ℤ x) ≡ pos 0
    no-product p q x a b d h = rw (no-entry p q a b d h, zero-*ℤ x) φ0

    -- a row before t adds its term
    pub earlier : (t p : ℕ) → p < t → t < j.matrix.n → landed_by φ t (row_updates j p) ≡ term t p
    unfolding landed_by row_updates later
    earlier t p l m =
        rw (ne_eqb p t (λ e. omega arith)) (+ℤ_idl (landed_by φ t (with_each j p (later j p))) ∙ go (is_in (later j p) t) refl (near p t) refl ∙ back_term p t)
      where
        in_later : near p t ≡ true → is_in (later j p) t ≡ true
        in_later y = filter-of (near p) (range (suc p) (j.matrix.n - suc p)) t (is_in-range (suc p) (j.matrix.n - suc p) t (omega arith) (omega arith)) y

        go : (b : Bool) → is_in (later j p) t ≡ b → (c : Bool) → near p t ≡ c → landed_by φ t (with_each j p (later j p)) ≡ back p t
        go true e c f = others-one p t (near p) (suc p) (j.matrix.n - suc p) (λ e. omega arith) e
        go false e true f = absurd (clash (in_later f) e)
        go false e false f = others-none p t (later j p) (λ q. omega arith) e ∙ sym (no-product p t (displacement_at j p) (omega arith) m (λ q. omega arith) f)

    -- the row at t adds its own term and those of all later rows
    pub own_row : (t : ℕ) → t < j.matrix.n → landed_by φ t (row_updates j t) ≡ term t t +ℤ sum_list (term t) (range (suc t) (j.matrix.n - suc t))
    unfolding landed_by row_updates later
    own_row t m =
        rw (eq-eqb t t refl)
        (ap (λ (z : ℤ). term t t +ℤ z) (own-each t (near t) (suc t) (j.matrix.n - suc t) (omega arith) (λ q a b h. no-product t q (displacement_at j q) m (omega arith) (λ e. omega arith) h)))
