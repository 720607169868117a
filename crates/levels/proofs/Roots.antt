-- The root is what document 02 says.
use mathlib.Core.Path.{◌≡◌, refl, sym, ap, ◌∙◌}
use mathlib.Core.Logic.{◌⊎◌, inl, inr}
use mathlib.Core.Bool.{Bool, true, false, ◌&&◌, cond, true≢false}
use mathlib.Core.List.{List, [], ◌∷◌}
use Prim.Native.Nat.{ℕ, zero, suc, ◌≤◌}
use native.Mathlib.Omega.{arith}
use lib.Dec.{eqb, ltb}
use borrow.Author.Tests.{eqb-true, eq-eqb, ltb-true, ltb-false}
use Rattle.base.specs.Lists.{filter, keep, is_in, range, best, best_of}
use Rattle.base.proofs.Booleans.{or_true, or_cases}
use Rattle.base.proofs.Lists.{filter_in, filter_passes, filter-of, filter-filter}
use Rattle.base.proofs.Best.{best_in}
use Rattle.levels.specs.Levels.{degree, root}
use Rattle.levels.specs.Roots.{IsRoot, Roots}

-- a list that ascends from k
abbrev Up : ℕ → List ℕ → Type 0
Up k [] = Unit {0}
Up k (x ∷ xs) = (k ≤ x) × Up x xs

up_from : (j k : ℕ) (xs : List ℕ) → j ≤ k → Up k xs → Up j xs
up_from j k [] l u = tt
up_from j k (x ∷ xs) l u = (omega (arith, u.0), u.1)

up-range : (p : ℕ → Bool) (k n : ℕ) → Up k (filter p (range k n))
up-range p k zero = tt
up-range p k (suc n) = go (p k) (up_from k (suc k) (filter p (range (suc k) n)) (omega arith) (up-range p (suc k) n))
  where
    go : (b : Bool) → Up k (filter p (range (suc k) n)) → Up k (keep b k (filter p (range (suc k) n)))
    go true u = (omega arith, u)
    go false u = u

-- the best of numbers that ascend has the least score, and is the lowest of those
module _ (score : ℕ → ℕ) where
  abbrev Least : ℕ → ℕ → Type 0
  Least r v = (score r ≤ score v) × (score v ≤ score r → r ≤ v)

  best_least : (x : ℕ) (xs : List ℕ) → Up x xs → (v : ℕ) → is_in (x ∷ xs) v ≡ true → Least (best score x xs) v
  unfolding best
  best_least x [] u v h = go (or_cases (eqb v x) false h)
    where
      go : (eqb v x ≡ true) ⊎ (false ≡ true) → Least x v
      go (inl e) = let q : v ≡ x = eqb-true v x e in rw q (omega arith, λ l. omega arith)
      go (inr e) = absurd (true≢false (sym e))
  best_least x (y ∷ ys) u v h = go (ltb (score y) (score x)) refl (λ z. best_least z ys) (or_cases (eqb v x) (is_in (y ∷ ys) v) h)
    where
      go : (c : Bool) → ltb (score y) (score x) ≡ c → ((z : ℕ) → Up z ys → (v : ℕ) → is_in (z ∷ ys) v ≡ true → Least (best score z ys) v) → (eqb v x ≡ true) ⊎ (is_in (y ∷ ys) v ≡ true) → Least (best score (cond c y x) ys) v
      go true c ih (inl e) =
          let q : v ≡ x = eqb-true v x e in
          let a = ih y u.1 y (rw (eq-eqb y y refl) refl) in
          let l = ltb-true (score y) (score x) c in
          rw q (omega (arith, a.0), λ k. absurd (omega (arith, a.0)))
      go true c ih (inr i) = ih y u.1 v i
      go false c ih (inl e) = ih x (up_from x y ys u.0 u.1) v (rw e refl)
      go false c ih (inr i) = by (or_cases (eqb v y) (is_in ys v) i)
        where
          by : (eqb v y ≡ true) ⊎ (is_in ys v ≡ true) → Least (best score x ys) v
          by (inl e) =
              let q : v ≡ y = eqb-true v y e in
              let a = ih x (up_from x y ys u.0 u.1) x (rw (eq-eqb x x refl) refl) in
              let l = ltb-false (score y) (score x) c in
              rw q (omega (arith, a.0), λ k. omega (arith, u.0, a.1 (omega arith)))
          by (inr k) = ih x (up_from x y ys u.0 u.1) v (rw k (or_true (eqb v x)))

module _ (adj : ℕ → List ℕ) (T : List ℕ) where
  of_list : (xs rest : List ℕ) → filter (is_in T) rest ≡ xs → Up 0 xs → (r : ℕ) (rs : List ℕ) → best_of (degree adj) xs ≡ r ∷ rs → (rs ≡ []) × IsRoot adj T rest r
  of_list [] rest s u r rs e = absurd (let z : ◌≡◌ {A = ℕ} 0 1 = cc in omega arith)
  of_list (x ∷ xs) rest s u r rs e =
      let q : best (degree adj) x xs ≡ r = cc in
      let none : rs ≡ [] = cc in
      let mine : is_in (filter (is_in T) rest) r ≡ true = rw s (best_in (degree adj) (x ∷ xs) r (rw (q, eq-eqb r r refl) refl)) in
      let here : (v : ℕ) → is_in T v ≡ true → is_in rest v ≡ true → is_in (x ∷ xs) v ≡ true = λ v own left. ap (λ (l : List ℕ). is_in l v) (sym s) ∙ filter-of (is_in T) rest v left own in (
        none,
        record {
          own = filter_passes (is_in T) rest r mine;
          unreached = filter_in (is_in T) rest r mine;
          fewest = λ v own left. rw (← q) (best_least (degree adj) x xs u.1 v (here v own left)).0;
          lowest = λ v own left tie. rw (← q) ((best_least (degree adj) x xs u.1 v (here v own left)).1 (omega (arith, ap (degree adj) q)));
        },
      )

  of_none : (xs : List ℕ) (t : ℕ) → is_in xs t ≡ true → (r : ℕ) × (best_of (degree adj) xs ≡ r ∷ [])
  of_none [] t h = absurd (true≢false (sym h))
  of_none (x ∷ xs) t h = (best (degree adj) x xs, refl)

-- the theorem
pub roots : Roots
unfolding root
roots = record {
  is = λ adj n T p r rs e. of_list adj T (filter (is_in T) (filter p (range 0 n))) (filter p (range 0 n)) refl (rw (filter-filter p (is_in T) (range 0 n)) (up-range (λ v. p v && is_in T v) 0 n)) r rs e;
  some = λ adj T rest t own left. of_none adj T (filter (is_in T) rest) t (filter-of (is_in T) rest t left own);
}
