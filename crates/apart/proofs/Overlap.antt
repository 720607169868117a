-- Two lists of rows are beyond k joins of each other exactly if no row is around both.
use mathlib.Core.Path.{◌≡◌, refl, sym, ap, ◌∙◌, subst, fun_ext}
use mathlib.Core.Logic.{◌⊎◌, inl, inr, ◌≢◌}
use mathlib.Core.Bool.{Bool, true, false, not, ◌||◌}
use mathlib.Core.List.{List}
use Prim.Native.Nat.{ℕ, zero, suc, ◌+◌, ◌-◌, ◌/◌}
use native.Mathlib.Omega.{arith}
use lib.Dec.{eqb}
use borrow.Author.Tests.{eqb-true, eq-eqb}
use Rattle.base.specs.Lists.{any, is_in}
use Rattle.base.proofs.Booleans.{or_true, or_cases, same_or, both_ways}
use Rattle.base.proofs.Lists.{any_of, any-get, is_in-concat-map}
use Rattle.base.proofs.Graph.{Graph}
use Rattle.base.specs.Near.{near}
use Rattle.base.proofs.Near.{near_halves}
use Rattle.matrix.specs.Matrix.{Matrix, columns_of, neighbours}
use Rattle.matrix.proofs.Matrix.{neighbour_column, column_neighbour}
use Rattle.plan.specs.Sound.{beyond}
use Rattle.apart.specs.Code.Marks.{closed, touched_by, around}

not-not : (b : Bool) → not (not b) ≡ b
not-not true = refl
not-not false = refl

module _ (m : Matrix) where
  adj : ℕ → List ℕ
  adj = neighbours m

  -- a row touches itself and the rows adjacent to it
  own : (u : ℕ) → is_in (closed m u) u ≡ true
  own u = rw (eq-eqb u u refl) refl

  other : (u z : ℕ) → is_in (adj u) z ≡ true → is_in (closed m u) z ≡ true
  unfolding adj
  other u z h = rw (neighbour_column m u z h) (or_true (eqb z u))

  own-or-other : (u z : ℕ) → is_in (closed m u) z ≡ true → (z ≡ u) ⊎ (is_in (adj u) z ≡ true)
  unfolding adj
  own-or-other u z h = go (or_cases (eqb z u) (is_in (columns_of m u) z) h)
    where
      go : (eqb z u ≡ true) ⊎ (is_in (columns_of m u) z ≡ true) → (z ≡ u) ⊎ (is_in (neighbours m u) z ≡ true)
      go (inl e) = inl (eqb-true z u e)
      go (inr c) = by (same_or z u)
        where
          by : (z ≡ u) ⊎ (z ≢ u) → (z ≡ u) ⊎ (is_in (neighbours m u) z ≡ true)
          by (inl e) = inl e
          by (inr d) = inr (column_neighbour m u z c d)

  -- a touched row is touched by one of the rows
  by_one : (rows : List ℕ) (z : ℕ) → is_in (touched_by m rows) z ≡ true → (u : ℕ) × (is_in rows u ≡ true) × (is_in (closed m u) z ≡ true)
  by_one rows z h = any-get (λ u. is_in (closed m u) z) rows (sym (is_in-concat-map (closed m) rows z) ∙ h)

  one_by : (rows : List ℕ) (u z : ℕ) → is_in rows u ≡ true → is_in (closed m u) z ≡ true → is_in (touched_by m rows) z ≡ true
  one_by rows u z a b = is_in-concat-map (closed m) rows z ∙ any_of (λ u. is_in (closed m u) z) rows u a b

  -- one join more, more rows
  pub around_more : (j : ℕ) (xs : List ℕ) (v : ℕ) → is_in (around m j xs) v ≡ true → is_in (around m (suc j) xs) v ≡ true
  unfolding around
  around_more j xs v h = one_by (around m j xs) v v h (own v)

  module _ (graph : Graph (neighbours m) m.n) where
    -- the rows touch what is within one join of them
    touched-near : (xs : List ℕ) (v : ℕ) → is_in (touched_by m xs) v ≡ is_in xs v || any (is_in xs) (adj v)
    unfolding adj
    touched-near xs v = both_ways (is_in (touched_by m xs) v) (is_in xs v || any (is_in xs) (adj v)) to (λ h. fro (or_cases (is_in xs v) (any (is_in xs) (adj v)) h))
      where
        to : is_in (touched_by m xs) v ≡ true → is_in xs v || any (is_in xs) (adj v) ≡ true
        to h = let (u, a, b) = by_one xs v h in go u a (own-or-other u v b)
          where
            go : (u : ℕ) → is_in xs u ≡ true → (v ≡ u) ⊎ (is_in (adj u) v ≡ true) → is_in xs v || any (is_in xs) (adj v) ≡ true
            go u a (inl e) = rw (subst (λ (x : ℕ). is_in xs x ≡ true) (sym e) a) refl
            go u a (inr c) = rw (any_of (is_in xs) (adj v) u (graph.both v u c) a) (or_true (is_in xs v))

        fro : (is_in xs v ≡ true) ⊎ (any (is_in xs) (adj v) ≡ true) → is_in (touched_by m xs) v ≡ true
        fro (inl a) = one_by xs v v a (own v)
        fro (inr a) = let (u, c, b) = any-get (is_in xs) (adj v) a in one_by xs u v b (other u v (graph.both u v c))

    around-near : (j : ℕ) (xs : List ℕ) → is_in (around m j xs) ≡ near (adj) j xs
    unfolding around near adj
    around-near zero xs = refl
    around-near (suc j) xs =
        fun_ext (λ v. touched-near (around m j xs) v ∙ ap (λ (p : ℕ → Bool). p v || any p (adj v)) (around-near j xs))

    -- two lists of rows are beyond k joins of each other if no row is within k - k / 2 joins of the one and k / 2 of
    -- the other
    pub overlap : (k : ℕ) (xs ys : List ℕ) → any (is_in (around m (k - k / 2) xs)) (around m (k / 2) ys) ≡ not (beyond (neighbours m) k xs ys)
    unfolding beyond adj
    overlap k xs ys =
        let e : k - k / 2 + k / 2 ≡ k = omega arith in
        ap (λ (p : ℕ → Bool). any p (around m (k / 2) ys)) (around-near (k - k / 2) xs)
        ∙ sym (near_halves adj graph (k - k / 2) (k / 2) xs ys (around m (k / 2) ys) (λ z. ap (λ (p : ℕ → Bool). p z) (around-near (k / 2) ys)))
        ∙ ap (λ (j : ℕ). any (near adj j xs) ys) e
        ∙ sym (not-not (any (near adj k xs) ys))
