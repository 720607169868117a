-- Which records of a sound plan hold a position q: a parent of one that does, and at most one of siblings.
use mathlib.Core.Path.{◌≡◌, refl, sym, subst}
use mathlib.Core.Logic.{◌⊎◌, inl, inr, ◌≢◌}
use mathlib.Core.Bool.{Bool, true, false, ◌||◌, true≢false}
use mathlib.Core.List.{List, [], ◌∷◌}
use Prim.Native.Nat.{ℕ, suc, ◌+◌, ◌≤◌, ◌<◌}
use native.Mathlib.Omega.{arith}
use lib.Dec.{eqb}
use borrow.Author.Tests.{eq-eqb}
use Rattle.base.specs.Lists.{filter, keep}
use Rattle.base.proofs.Booleans.{and_left, or_cases, same_or, is_false}
use Rattle.plan.specs.Groups.{Group}
use Rattle.plan.specs.Sound.{apart, children, tiled, like_apart, children_sound}
use Rattle.plan.proofs.Pair.{Pair, pair_of, tiled-le}
use Rattle.plan.proofs.Records.{Down, Sounds}
use Rattle.run.specs.Tree.{holds}
use Rattle.run.proofs.Holds.{holds_in, in_holds}
use Rattle.tables.proofs.WayDown.{held}

module _ (q : ℕ) where
  -- ---- the children of one group

  -- children that tile g from s on hold no position before s or past g's end
  pub tiled_in : (g : Group) (s f : ℕ) (ks : List Group) → tiled g s f ks ≡ true → held q ks ≡ true → (s ≤ q) × (q < g.start + g.length)
  unfolding tiled
  tiled_in g s f [] h a = absurd (true≢false (sym a))
  tiled_in g s f (r ∷ []) h a = absurd (true≢false (sym h))
  tiled_in g s f (r ∷ b ∷ ks) h a = go (or_cases (holds r q) (holds b q || held q ks) a) (tiled_in g (s + r.length + b.length) (f + r.workers) ks p.rest)
    where
      p : Pair g s f r b ks
      p = pair_of g s f r b ks h

      e : s + r.length + b.length ≤ g.start + g.length
      e = tiled-le g (s + r.length + b.length) (f + r.workers) ks p.rest

      blue : (holds b q ≡ true) ⊎ (held q ks ≡ true) → (held q ks ≡ true → (s + r.length + b.length ≤ q) × (q < g.start + g.length)) → (s ≤ q) × (q < g.start + g.length)
      blue (inl y) ih = let i = holds_in b q y in (omega (arith, p.then), omega (arith, p.then, e))
      blue (inr y) ih = let i = ih y in (omega arith, omega arith)

      go : (holds r q ≡ true) ⊎ (holds b q || held q ks ≡ true) → (held q ks ≡ true → (s + r.length + b.length ≤ q) × (q < g.start + g.length)) → (s ≤ q) × (q < g.start + g.length)
      go (inl x) ih = let i = holds_in r q x in (omega (arith, p.here), omega (arith, p.here, e))
      go (inr x) ih = blue (or_cases (holds b q) (held q ks) x) ih

  -- a group holds what its children hold
  pub child-inside : (adj : ℕ → List ℕ) (order : List ℕ) (g : Group) (ks : List Group) → children_sound (apart adj) order g ks ≡ true → held q ks ≡ true → holds g q ≡ true
  unfolding children_sound
  child-inside adj order g [] h a = absurd (true≢false (sym a))
  child-inside adj order g (k ∷ ks) h a =
      let i = tiled_in g g.start g.first (k ∷ ks) (and_left (tiled g g.start g.first (k ∷ ks)) (like_apart (apart adj) order (k ∷ ks)) h) a in
      in_holds g q i.0 i.1

  -- of these siblings at most one holds q
  abbrev Single : List Group → Type 0
  Single [] = Unit {0}
  Single (k ∷ ks) = (holds k q ≡ true → held q ks ≡ false) × Single ks

  tiled_single : (g : Group) (s f : ℕ) (ks : List Group) → tiled g s f ks ≡ true → Single ks
  unfolding tiled
  tiled_single g s f [] h = tt
  tiled_single g s f (r ∷ []) h = absurd (true≢false (sym h))
  tiled_single g s f (r ∷ b ∷ ks) h =
      ((λ x. red (holds_in r q x).1), ((λ x. later (omega (arith, (holds_in b q x).1, p.then))), tiled_single g (s + r.length + b.length) (f + r.workers) ks p.rest))
    where
      p : Pair g s f r b ks
      p = pair_of g s f r b ks h

      later : q < s + r.length + b.length → held q ks ≡ false
      later l = is_false (λ e. omega (arith, (tiled_in g (s + r.length + b.length) (f + r.workers) ks p.rest e).0))

      red : q < r.start + r.length → holds b q || held q ks ≡ false
      red l = rw (is_false {b = holds b q} (λ e. omega (arith, (holds_in b q e).0, p.then, p.here)), later (omega (arith, p.here))) refl

  children_single : (adj : ℕ → List ℕ) (order : List ℕ) (g : Group) (ks : List Group) → children_sound (apart adj) order g ks ≡ true → Single ks
  unfolding children_sound
  children_single adj order g [] h = tt
  children_single adj order g (k ∷ ks) h = tiled_single g g.start g.first (k ∷ ks) (and_left (tiled g g.start g.first (k ∷ ks)) (like_apart (apart adj) order (k ∷ ks)) h)

  -- ---- all records

  -- if a record holds q, none of its later siblings does
  abbrev pub Separate : List Group → Type 0
  Separate [] = Unit {0}
  Separate (g ∷ gs) = (holds g q ≡ true → held q (children g.parent gs) ≡ false) × Separate gs

  single_skip : (p : ℕ) (g : Group) (gs : List Group) → Single (children p (g ∷ gs)) → Single (children p gs)
  unfolding children
  single_skip p g gs h = go (eqb g.parent p) h
    where
      mine : List Group
      mine = filter (λ h. eqb h.parent p) gs

      go : (b : Bool) → Single (keep b g mine) → Single mine
      go true x = x.1
      go false x = x

  separate_from : (adj : ℕ → List ℕ) (order : List ℕ) (i : ℕ) (gs : List Group) → Down i gs → Sounds (apart adj) order i gs → ((p : ℕ) → p < i → Single (children p gs)) → Separate gs
  unfolding children
  separate_from adj order i [] d s h = tt
  separate_from adj order i (g ∷ gs) d s h = (here.0, separate_from adj order (suc i) gs d.1 s.1 (λ p l. go p l (same_or p i)))
    where
      here : Single (keep true g (children g.parent gs))
      here = subst (λ (b : Bool). Single (keep b g (children g.parent gs))) (eq-eqb g.parent g.parent refl) (h g.parent d.0)

      go : (p : ℕ) → p < suc i → (p ≡ i) ⊎ (p ≢ i) → Single (children p gs)
      go p l (inl e) = subst (λ (y : ℕ). Single (children y gs)) (sym e) (children_single adj order g (children i gs) s.0)
      go p l (inr n) = single_skip p g gs (h p (omega arith))

  -- the records after the whole g
  pub separate : (adj : ℕ → List ℕ) (order : List ℕ) (g : Group) (gs : List Group) → Down 1 gs → Sounds (apart adj) order 0 (g ∷ gs) → Separate gs
  separate adj order g gs d s =
      separate_from adj order 1 gs d s.1
      (λ p l. (let e : 0 ≡ p = omega arith in subst (λ (y : ℕ). Single (children y gs)) e (children_single adj order g (children 0 gs) s.0)))
