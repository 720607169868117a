-- Rows within some joins of others: more joins, more rows, and a path cut in two.
use mathlib.Core.Path.{◌≡◌, refl, sym, ap, ◌∙◌, subst, fun_ext}
use mathlib.Core.Logic.{◌⊎◌, inl, inr}
use mathlib.Core.Bool.{Bool, true, false, ◌||◌, true≢false}
use mathlib.Core.List.{List, [], ◌∷◌}
use Prim.Native.Nat.{ℕ, zero, suc, ◌+◌, ◌-◌, ◌≤◌, ◌<◌}
use native.Mathlib.Omega.{arith}
use lib.Dec.{eqb}
use borrow.Author.Tests.{eqb-true, eq-eqb}
use Rattle.base.specs.Lists.{any, is_in}
use Rattle.base.specs.Near.{near}
use Rattle.base.proofs.Booleans.{or_true, or_cases, both_ways}
use Rattle.base.proofs.Lists.{any_of, any-get}
use Rattle.base.proofs.Graph.{Graph}

self : (v : ℕ) → is_in (v ∷ []) v ≡ true
self v = rw (eq-eqb v v refl) refl

pub alone : (u v : ℕ) → is_in (u ∷ []) v ≡ true → v ≡ u
alone u v h = go (or_cases (eqb v u) false h)
  where
    go : (eqb v u ≡ true) ⊎ (false ≡ true) → v ≡ u
    go (inl e) = eqb-true v u e
    go (inr e) = absurd (true≢false (sym e))

module _ (adj : ℕ → List ℕ) where
  -- the rows within one join more: those within k, and those adjacent to one
  pub near-stay : (k : ℕ) (T : List ℕ) (v : ℕ) → near adj k T v ≡ true → near adj (suc k) T v ≡ true
  unfolding near
  near-stay k T v h = rw h refl

  pub near_step : (k : ℕ) (T : List ℕ) (u v : ℕ) → is_in (adj v) u ≡ true → near adj k T u ≡ true → near adj (suc k) T v ≡ true
  unfolding near
  near_step k T u v c h = rw (any_of (near adj k T) (adj v) u c h) (or_true (near adj k T v))

  pub near_cases : (k : ℕ) (T : List ℕ) (v : ℕ) → near adj (suc k) T v ≡ true → (near adj k T v ≡ true) ⊎ ((u : ℕ) × (is_in (adj v) u ≡ true) × (near adj k T u ≡ true))
  unfolding near
  near_cases k T v h = go (or_cases (near adj k T v) (any (near adj k T) (adj v)) h)
    where
      go : (near adj k T v ≡ true) ⊎ (any (near adj k T) (adj v) ≡ true) → (near adj k T v ≡ true) ⊎ ((u : ℕ) × (is_in (adj v) u ≡ true) × (near adj k T u ≡ true))
      go (inl a) = inl a
      go (inr a) = inr (any-get (near adj k T) (adj v) a)

  -- within more joins
  pub near_more : (d k : ℕ) (T : List ℕ) (v : ℕ) → near adj k T v ≡ true → near adj (d + k) T v ≡ true
  near_more zero k T v h = let e : k ≡ 0 + k = omega arith in subst (λ (j : ℕ). near adj j T v ≡ true) e h
  near_more (suc d) k T v h = let e : suc (d + k) ≡ suc d + k = omega arith in subst (λ (j : ℕ). near adj j T v ≡ true) e (near-stay (d + k) T v (near_more d k T v h))

  pub near_le : (j k : ℕ) (T : List ℕ) (v : ℕ) → j ≤ k → near adj j T v ≡ true → near adj k T v ≡ true
  near_le j k T v l h = let e : k - j + j ≡ k = omega arith in subst (λ (i : ℕ). near adj i T v ≡ true) e (near_more (k - j) j T v h)

  -- of more rows
  pub near_of : (k : ℕ) (S T : List ℕ) → ((v : ℕ) → is_in S v ≡ true → is_in T v ≡ true) → (v : ℕ) → near adj k S v ≡ true → near adj k T v ≡ true
  unfolding near
  near_of zero S T f v h = f v h
  near_of (suc k) S T f v h = go (near_of k S T f) (near_cases k S v h)
    where
      go : ((u : ℕ) → near adj k S u ≡ true → near adj k T u ≡ true) → (near adj k S v ≡ true) ⊎ ((u : ℕ) × (is_in (adj v) u ≡ true) × (near adj k S u ≡ true)) → near adj (suc k) T v ≡ true
      go ih (inl a) = near-stay k T v (ih v a)
      go ih (inr (u, c, a)) = near_step k T u v c (ih u a)

  -- who is near depends on who is in T alone
  pub near_same : (k : ℕ) (S T : List ℕ) → is_in S ≡ is_in T → near adj k S ≡ near adj k T
  unfolding near
  near_same zero S T e = e
  near_same (suc k) S T e = fun_ext (λ v. ap (λ (p : ℕ → Bool). p v || any p (adj v)) (near_same k S T e))

  -- a row is within k joins of one of the rows
  pub near-one : (k : ℕ) (T : List ℕ) (v : ℕ) → near adj k T v ≡ true → (t : ℕ) × (is_in T t ≡ true) × (near adj k (t ∷ []) v ≡ true)
  unfolding near
  near-one zero T v h = (v, h, self v)
  near-one (suc k) T v h = go (near-one k T) (near_cases k T v h)
    where
      go : ((u : ℕ) → near adj k T u ≡ true → (t : ℕ) × (is_in T t ≡ true) × (near adj k (t ∷ []) u ≡ true))
          → (near adj k T v ≡ true) ⊎ ((u : ℕ) × (is_in (adj v) u ≡ true) × (near adj k T u ≡ true)) → (t : ℕ) × (is_in T t ≡ true) × (near adj (suc k) (t ∷ []) v ≡ true)
      go ih (inl a) = let (t, o, b) = ih v a in (t, o, near-stay k (t ∷ []) v b)
      go ih (inr (u, c, a)) = let (t, o, b) = ih u a in (t, o, near_step k (t ∷ []) u v c b)

  module _ {n : ℕ} (graph : Graph adj n) where
    -- rows within k joins of rows below n are below n
    pub near-below : (k : ℕ) (T : List ℕ) → ((v : ℕ) → is_in T v ≡ true → v < n) → (v : ℕ) → near adj k T v ≡ true → v < n
    unfolding near
    near-below zero T low v h = low v h
    near-below (suc k) T low v h = go (near_cases k T v h) (near-below k T low v)
      where
        go : (near adj k T v ≡ true) ⊎ ((u : ℕ) × (is_in (adj v) u ≡ true) × (near adj k T u ≡ true)) → (near adj k T v ≡ true → v < n) → v < n
        go (inl a) ih = ih a
        go (inr (u, c, a)) ih = graph.below v u (graph.both u v c)

    -- a path that begins with a join
    near-from : (k u v z : ℕ) → is_in (adj v) u ≡ true → near adj k (u ∷ []) z ≡ true → near adj (suc k) (v ∷ []) z ≡ true
    unfolding near
    near-from zero u v z c h = near_step zero (v ∷ []) v z (subst (λ (x : ℕ). is_in (adj x) v ≡ true) (sym (alone u z h)) (graph.both u v c)) (self v)
    near-from (suc k) u v z c h = go (λ x. near-from k u v x c) (near_cases k (u ∷ []) z h)
      where
        go : ((x : ℕ) → near adj k (u ∷ []) x ≡ true → near adj (suc k) (v ∷ []) x ≡ true)
            → (near adj k (u ∷ []) z ≡ true) ⊎ ((x : ℕ) × (is_in (adj z) x ≡ true) × (near adj k (u ∷ []) x ≡ true)) → near adj (suc (suc k)) (v ∷ []) z ≡ true
        go ih (inl a) = near-stay (suc k) (v ∷ []) z (ih z a)
        go ih (inr (x, d, a)) = near_step (suc k) (v ∷ []) x z d (ih x a)

    -- a path of a + b joins has a row within a joins of its one end and b of the other
    pub near-cut : (a b : ℕ) (T : List ℕ) (v : ℕ) → near adj (a + b) T v ≡ true → (z : ℕ) × (near adj a T z ≡ true) × (near adj b (v ∷ []) z ≡ true)
    unfolding near
    near-cut a zero T v h = let e : a + 0 ≡ a = omega arith in (v, subst (λ (j : ℕ). near adj j T v ≡ true) e h, self v)
    near-cut a (suc b) T v h =
        let e : a + suc b ≡ suc (a + b) = omega arith in
        go (near-cut a b T) (near_cases (a + b) T v (subst (λ (j : ℕ). near adj j T v ≡ true) e h))
      where
        go : ((u : ℕ) → near adj (a + b) T u ≡ true → (z : ℕ) × (near adj a T z ≡ true) × (near adj b (u ∷ []) z ≡ true))
            → (near adj (a + b) T v ≡ true) ⊎ ((u : ℕ) × (is_in (adj v) u ≡ true) × (near adj (a + b) T u ≡ true)) → (z : ℕ) × (near adj a T z ≡ true) × (near adj (suc b) (v ∷ []) z ≡ true)
        go ih (inl x) = let (z, p, q) = ih v x in (z, p, near-stay b (v ∷ []) z q)
        go ih (inr (u, c, x)) = let (z, p, q) = ih u x in (z, p, near-from b u v z c q)

    -- .. and the other way round
    pub near-join : (a b : ℕ) (T : List ℕ) (v z : ℕ) → near adj a T z ≡ true → near adj b (v ∷ []) z ≡ true → near adj (a + b) T v ≡ true
    unfolding near
    near-join a zero T v z p q =
        let e : a ≡ a + 0 = omega arith in
        subst (λ (j : ℕ). near adj j T v ≡ true) e (subst (λ (x : ℕ). near adj a T x ≡ true) (alone v z q) p)
    near-join a (suc b) T v z p q = go (λ c x. near-join c b T v x) (near_cases b (v ∷ []) z q)
      where
        e : suc a + b ≡ a + suc b
        e = omega arith

        go : ((c x : ℕ) → near adj c T x ≡ true → near adj b (v ∷ []) x ≡ true → near adj (c + b) T v ≡ true)
            → (near adj b (v ∷ []) z ≡ true) ⊎ ((x : ℕ) × (is_in (adj z) x ≡ true) × (near adj b (v ∷ []) x ≡ true)) → near adj (a + suc b) T v ≡ true
        go ih (inl x) = subst (λ (j : ℕ). near adj j T v ≡ true) e (ih (suc a) z (near-stay a T z p) x)
        go ih (inr (x, c, d)) = subst (λ (j : ℕ). near adj j T v ≡ true) e (ih (suc a) x (near_step a T z x (graph.both x z c) p) d)

    -- xs and ys are within a + b joins of each other if some row within b joins of ys is within a joins of xs
    pub near_halves : (a b : ℕ) (xs ys zs : List ℕ) → ((z : ℕ) → is_in zs z ≡ near adj b ys z) → any (near adj (a + b) xs) ys ≡ any (near adj a xs) zs
    near_halves a b xs ys zs around = both_ways (any (near adj (a + b) xs) ys) (any (near adj a xs) zs) to fro
      where
        to : any (near adj (a + b) xs) ys ≡ true → any (near adj a xs) zs ≡ true
        to h =
            let (v, o, k) = any-get (near adj (a + b) xs) ys h in
            let (z, p, q) = near-cut a b xs v k in
            any_of (near adj a xs) zs z (around z ∙ near_of b (v ∷ []) ys (λ x m. subst (λ (y : ℕ). is_in ys y ≡ true) (sym (alone v x m)) o) z q) p

        fro : any (near adj a xs) zs ≡ true → any (near adj (a + b) xs) ys ≡ true
        fro h =
            let (z, i, t) = any-get (near adj a xs) zs h in
            let (v, o, q) = near-one b ys z (sym (around z) ∙ i) in
            any_of (near adj (a + b) xs) ys v o (near-join a b xs v z t q)
