-- The best of some elements is one of them; the best of some numbers is the first of them by score.
use mathlib.Core.Path.{◌≡◌, refl, sym, ap, ◌∙◌, fun_ext, subst}
use mathlib.Core.Logic.{◌⊎◌, inl, inr, ◌≢◌}
use mathlib.Core.Bool.{Bool, true, false, cond, true≢false}
use mathlib.Core.List.{List, [], ◌∷◌, ◌++◌}
use Prim.Native.Nat.{ℕ, zero, suc, ◌+◌, ◌≤◌, ◌<◌}
use native.Mathlib.Omega.{arith}
use lib.Dec.{eqb, ltb}
use lib.ListN.{take}
use borrow.Author.Tests.{eqb-true, eqb-false, eq-eqb, ne_eqb, ltb-false, le-ltb}
use Rattle.base.specs.Lists.{any, filter, keep, is_in, range, best, best_of}
use Rattle.base.specs.Code.Scores.{by_score}
use Rattle.base.proofs.Booleans.{or_true, or_cases, or_mono, both_ways}
use Rattle.base.proofs.Lists.{filter-append, filter_swap, filter_in, filter-of, is_in-range, is_in-concat-map, any_of, any-get, of-all}
use Rattle.base.proofs.Each.{Each, all-each}

module _ {ℓ} {A : Type ℓ} (P : A → Type 0) (score : A → ℕ) where
  -- what all of them have
  pub best-is : (x : A) (xs : List A) → P x → Each P xs → P (best score x xs)
  unfolding best
  best-is x [] p h = p
  best-is x (y ∷ ys) p h = best-is (cond (ltb (score y) (score x)) y x) ys (go (ltb (score y) (score x))) h.1
    where
      go : (b : Bool) → P (cond b y x)
      go true = h.0
      go false = p

module _ (score : ℕ → ℕ) where
  -- it is one of them
  pub best_in : (xs : List ℕ) (v : ℕ) → is_in (best_of score xs) v ≡ true → is_in xs v ≡ true
  best_in [] v h = h
  best_in (x ∷ xs) v h = go (or_cases (eqb v (best score x xs)) false h)
    where
      mine : ℕ → Bool
      mine = is_in (x ∷ xs)

      one : mine (best score x xs) ≡ true
      one =
          best-is (λ u. mine u ≡ true) score x xs (rw (eq-eqb x x refl) refl)
          (all-each (λ u. mine u ≡ true) mine (λ u k. k) xs (of-all mine xs (λ u k. rw k (or_true (eqb u x)))))

      go : (eqb v (best score x xs) ≡ true) ⊎ (false ≡ true) → is_in (x ∷ xs) v ≡ true
      go (inl e) = subst (λ (u : ℕ). is_in (x ∷ xs) u ≡ true) (sym (eqb-true v (best score x xs) e)) one
      go (inr e) = absurd (true≢false (sym e))

  -- of some numbers there is one
  pub best-some : (xs : List ℕ) (v : ℕ) → is_in xs v ≡ true → (r : ℕ) × (is_in (best_of score xs) r ≡ true)
  best-some [] v h = absurd (true≢false (sym h))
  best-some (x ∷ xs) v h = (best score x xs, rw (eq-eqb (best score x xs) (best score x xs) refl) refl)

  -- no score is less than that of x
  stays : (x : ℕ) (xs : List ℕ) → ((v : ℕ) → is_in xs v ≡ true → score x ≤ score v) → best score x xs ≡ x
  unfolding best
  stays x [] h = refl
  stays x (y ∷ ys) h =
      rw (le-ltb (score y) (score x) (h y (rw (eq-eqb y y refl) refl)))
      (stays x ys (λ v i. h v (rw i (or_true (eqb v y)))))

  -- no score is less than k: the first number of score k
  found : (k : ℕ) (x : ℕ) (xs : List ℕ) (y : ℕ) (ys : List ℕ) → ((v : ℕ) → is_in (x ∷ xs) v ≡ true → k ≤ score v) → filter (λ v. eqb (score v) k) (x ∷ xs) ≡ y ∷ ys → best score x xs ≡ y
  unfolding best
  found k x [] y ys h e = go (eqb (score x) k) e
    where
      go : (b : Bool) → keep b x [] ≡ y ∷ ys → x ≡ y
      go true q = cc
      go false q = let z : ◌≡◌ {A = ℕ} 0 1 = cc in absurd (omega arith)
  found k x (z ∷ zs) y ys h e = go (eqb (score x) k) refl e (ltb (score z) (score x)) refl (λ c. found k (cond c z x) zs y ys)
    where
      own : k ≤ score x
      own = h x (rw (eq-eqb x x refl) refl)

      next : (v : ℕ) → is_in (z ∷ zs) v ≡ true → k ≤ score v
      next v i = h v (rw i (or_true (eqb v x)))

      go : (b : Bool) → eqb (score x) k ≡ b → keep b x (filter (λ v. eqb (score v) k) (z ∷ zs)) ≡ y ∷ ys → (c : Bool) → ltb (score z) (score x) ≡ c
          → ((c : Bool) → ((v : ℕ) → is_in (cond c z x ∷ zs) v ≡ true → k ≤ score v) → filter (λ v. eqb (score v) k) (cond c z x ∷ zs) ≡ y ∷ ys → best score (cond c z x) zs ≡ y)
          → best score (cond c z x) zs ≡ y
      go true a q c d ih =
          let s : score x ≡ k = eqb-true (score x) k a in
          let w : x ≡ y = cc in
          ap (λ (t : Bool). best score (cond t z x) zs) (sym d) ∙ stays x (z ∷ zs) (λ v i. omega (arith, next v i)) ∙ w
      go false a q true d ih = ih true next q
      go false a q false d ih =
          let n : score x ≢ k = eqb-false (score x) k a in
          let m : eqb (score z) k ≡ false = ne_eqb (score z) k (λ (f : score z ≡ k). omega (arith, own, ltb-false (score z) (score x) d)) in
          let r : filter (λ v. eqb (score v) k) zs ≡ y ∷ ys = rw m at q in
          ih false (λ v i. h v (or_mono (eqb v x) (is_in zs v) (eqb v x) (is_in (z ∷ zs) v) (λ e. e) (λ e. rw e (or_true (eqb v z))) i)) (rw a r)

  by_score_none : (k m : ℕ) → by_score score k m [] ≡ []
  by_score_none k zero = refl
  by_score_none k (suc m) = by_score_none (suc k) m

  -- the first by score
  pub best-first : (m k : ℕ) (xs : List ℕ) → ((v : ℕ) → is_in xs v ≡ true → (k ≤ score v) × (score v < k + m)) → best_of score xs ≡ take 1 (by_score score k m xs)
  best-first m k [] h = ap (take 1) (sym (by_score_none k m))
  best-first zero k (x ∷ xs) h = let q = h x (rw (eq-eqb x x refl) refl) in absurd (omega arith)
  best-first (suc m) k (x ∷ xs) h = go (filter (λ v. eqb (score v) k) (x ∷ xs)) refl (best-first m (suc k) (x ∷ xs))
    where
      go : (ys : List ℕ) → filter (λ v. eqb (score v) k) (x ∷ xs) ≡ ys
          → (((v : ℕ) → is_in (x ∷ xs) v ≡ true → (suc k ≤ score v) × (score v < suc k + m)) → best score x xs ∷ [] ≡ take 1 (by_score score (suc k) m (x ∷ xs)))
          → best score x xs ∷ [] ≡ take 1 (ys ++ by_score score (suc k) m (x ∷ xs))
      go [] e ih = ih (λ v i.
          let q = h v i in
          let n : score v ≢ k = λ (f : score v ≡ k). true≢false (sym (filter-of (λ v. eqb (score v) k) (x ∷ xs) v i (eq-eqb (score v) k f)) ∙ ap (λ (l : List ℕ). is_in l v) e) in
          (omega arith, omega arith))
      go (y ∷ ys) e ih = ap (λ (v : ℕ). v ∷ []) (found k x xs y ys (λ v i. (h v i).0) e)

  -- of those that pass a test
  pub by_score_filter : (p : ℕ → Bool) (m k : ℕ) (xs : List ℕ) → by_score score k m (filter p xs) ≡ filter p (by_score score k m xs)
  by_score_filter p zero k xs = refl
  by_score_filter p (suc m) k xs =
      ap (λ (l : List ℕ). l ++ by_score score (suc k) m (filter p xs)) (filter_swap p (λ v. eqb (score v) k) xs)
      ∙ ap (λ (l : List ℕ). filter p (filter (λ v. eqb (score v) k) xs) ++ l) (by_score_filter p m (suc k) xs)
      ∙ sym (filter-append p (filter (λ v. eqb (score v) k) xs) (by_score score (suc k) m xs))

  -- the same numbers
  pub by_score_in : (m : ℕ) (xs : List ℕ) → ((v : ℕ) → is_in xs v ≡ true → score v < m) → is_in (by_score score 0 m xs) ≡ is_in xs
  by_score_in m xs few = fun_ext (λ v. is_in-concat-map at (range 0 m) v ∙ both_ways (any (λ d. is_in (at d) v) (range 0 m)) (is_in xs v) (part v) (whole v))
    where
      at : ℕ → List ℕ
      at d = filter (λ v. eqb (score v) d) xs

      part : (v : ℕ) → any (λ d. is_in (at d) v) (range 0 m) ≡ true → is_in xs v ≡ true
      part v h = let (d, i, k) = any-get (λ d. is_in (at d) v) (range 0 m) h in filter_in (λ v. eqb (score v) d) xs v k

      whole : (v : ℕ) → is_in xs v ≡ true → any (λ d. is_in (at d) v) (range 0 m) ≡ true
      whole v h =
          any_of (λ d. is_in (at d) v) (range 0 m) (score v) (is_in-range 0 m (score v) (omega arith) (omega (arith, few v h)))
          (filter-of (λ u. eqb (score u) (score v)) xs v h (eq-eqb (score v) (score v) refl))
