-- A sound plan stays sound under any test that its like-coloured siblings pass too: so at smaller distances, and at 2
-- it is document 01's.
use mathlib.Core.Path.{◌≡◌, refl, sym, ap, ◌∙◌}
use mathlib.Core.Logic.{◌⊎◌, inl, inr}
use mathlib.Core.Bool.{Bool, true, false, not, ◌&&◌, ◌||◌}
use mathlib.Core.List.{List, [], ◌∷◌}
use Prim.Native.Nat.{ℕ, ◌+◌, ◌≤◌}
use lib.Dec.{eqb, leb}
use lib.ListN.{length}
use borrow.Author.Tests.{not-true, not-false}
use Rattle.base.specs.Lists.{any, is_in}
use Rattle.base.specs.Near.{near}
use Rattle.base.proofs.Booleans.{and_left, and_right, or_true, or_cases, or_left_false, or_right_false, both_ways}
use Rattle.base.proofs.Each.{Each, Pairwise}
use Rattle.base.proofs.Graph.{Graph}
use Rattle.base.proofs.Integers.{never}
use Rattle.base.proofs.Lists.{any_of, any-get}
use Rattle.base.proofs.Near.{near-stay, near_step, near_cases, near_le}
use Rattle.matrix.specs.Matrix.{Matrix, is_matrix, neighbours}
use Rattle.matrix.proofs.Matrix.{graph}
use Rattle.plan.specs.Groups.{Group, Plan, whole}
use Rattle.plan.specs.Sound.{max_workers, max_groups, each_once, depth_first, children, tiled, apart, beyond, stretch_of, like_apart, children_sound, all_sound, sound, is_sound, is_sound_at}
use Rattle.plan.specs.Code.Checks.{tiles}
use Rattle.plan.specs.Distances.{Distances}
use Rattle.plan.proofs.Once.{once}
use Rattle.plan.proofs.Sound.{sound_facts}
use Rattle.plan.proofs.Spread.{After, tiles_spread, after_disjoint}

-- ---- from one test to another

and_then : (a b c : Bool) → (b ≡ true → c ≡ true) → a && b ≡ true → a && c ≡ true
and_then a b c f h = rw (and_left a b h, f (and_right a b h)) refl

-- siblings, one after the other, that pass the test p pass q
module _ (p q : List ℕ → List ℕ → Bool) (order : List ℕ)
    (step : (g h : Group) → After g h → p (stretch_of order g) (stretch_of order h) ≡ true → q (stretch_of order g) (stretch_of order h) ≡ true) where
  -- a child that is like g and too near
  abbrev near_by : (far : List ℕ → List ℕ → Bool) → Group → Group → Bool
  near_by far g h = eqb g.colour h.colour && not (far (stretch_of order g) (stretch_of order h))

  like_none : (g : Group) (hs : List Group) → Each (After g) hs → any (near_by p g) hs ≡ false → any (near_by q g) hs ≡ false
  like_none g [] w e = refl
  like_none g (h ∷ hs) w e =
      rw (go (eqb g.colour h.colour) (or_left_false (near_by p g h) (any (near_by p g) hs) e))
      (like_none g hs w.1 (or_right_false (near_by p g h) (any (near_by p g) hs) e))
    where
      go : (b : Bool) → b && not (p (stretch_of order g) (stretch_of order h)) ≡ false → b && not (q (stretch_of order g) (stretch_of order h)) ≡ false
      go true k = ap not (step g h w.0 (not-false (p (stretch_of order g) (stretch_of order h)) k))
      go false k = refl

  like_weaker : (hs : List Group) → Pairwise After hs → like_apart p order hs ≡ true → like_apart q order hs ≡ true
  unfolding like_apart
  like_weaker [] w h = refl
  like_weaker (g ∷ gs) w h =
      let none = not-true (any (near_by p g) gs) (and_left (not (any (near_by p g) gs)) (like_apart p order gs) h) in
      rw (like_none g gs w.0 none) (like_weaker gs w.1 (and_right (not (any (near_by p g) gs)) (like_apart p order gs) h))

  children_weaker : (g : Group) (ks : List Group) → children_sound p order g ks ≡ true → children_sound q order g ks ≡ true
  unfolding children_sound tiles
  children_weaker g [] h = refl
  children_weaker g (k ∷ ks) h =
      let tile = tiled g g.start g.first (k ∷ ks) in
      and_then tile (like_apart p order (k ∷ ks)) (like_apart q order (k ∷ ks)) (like_weaker (k ∷ ks) (tiles_spread g (k ∷ ks) (and_left tile (like_apart p order (k ∷ ks)) h)).in-turn) h

  all_weaker : (below : List Group) (i : ℕ) (gs : List Group) → all_sound p order below i gs ≡ true → all_sound q order below i gs ≡ true
  unfolding all_sound
  all_weaker below i [] h = refl
  all_weaker below i (g ∷ gs) h =
      rw (children_weaker g (children i below) (and_left (children_sound p order g (children i below)) (all_sound p order below (i + 1) gs) h))
      (all_weaker below (i + 1) gs (and_right (children_sound p order g (children i below)) (all_sound p order below (i + 1) gs) h))

-- the other tests of soundness
abbrev others : (n : ℕ) (order : List ℕ) → Group → List Group → Bool
others n order g gs =
    each_once n order
    && eqb g.start 0 && eqb g.length n && eqb g.first 0 && eqb g.colour whole && eqb g.parent 0 && eqb g.depth 0
    && leb 1 g.workers && leb g.workers max_workers
    && leb (length (g ∷ gs)) max_groups
    && depth_first (0 ∷ []) 1 gs

-- in a sound plan the rows of two siblings are disjoint
pub sound_weaker : (p q : List ℕ → List ℕ → Bool) (n : ℕ) (order : List ℕ) (gs : List Group)
    → ((xs ys : List ℕ) → ((v : ℕ) → is_in xs v ≡ true → is_in ys v ≡ true → ⊥) → p xs ys ≡ true → q xs ys ≡ true) → sound p n order gs ≡ true → sound q n order gs ≡ true
unfolding sound
sound_weaker p q n order [] f h = never h
sound_weaker p q n order (g ∷ gs) f h =
    let each = once n order (sound_facts p n order g gs h).once in
    and_then (others n order g gs) (all_sound p order gs 0 (g ∷ gs)) (all_sound q order gs 0 (g ∷ gs))
    (all_weaker p q order (λ x y a. f (stretch_of order x) (stretch_of order y) (after_disjoint n order each x y a)) gs 0 (g ∷ gs)) h

-- ---- distances

module _ (adj : ℕ → List ℕ) where
  beyond-smaller : (j k : ℕ) → j ≤ k → (xs ys : List ℕ) → beyond adj k xs ys ≡ true → beyond adj j xs ys ≡ true
  unfolding beyond
  beyond-smaller j k l xs ys h = go (any (near adj j xs) ys) refl
    where
      go : (b : Bool) → any (near adj j xs) ys ≡ b → not b ≡ true
      go true e =
          let (v, o, a) = any-get (near adj j xs) ys e in
          sym (ap not (any_of (near adj k xs) ys v o (near_le adj j k xs v l a))) ∙ h
      go false e = refl

  -- for disjoint rows, a path of two joins or fewer: they are adjacent or have a common adjacent row
  beyond-two : {n : ℕ} → Graph adj n → (xs ys : List ℕ) → ((v : ℕ) → is_in xs v ≡ true → is_in ys v ≡ true → ⊥) → beyond adj 2 xs ys ≡ apart adj xs ys
  unfolding beyond apart near
  beyond-two G xs ys disjoint = ap not (both_ways (any (near adj 2 xs) ys) (any (λ u. any (linked u) ys) xs) to fro)
    where
      linked : ℕ → ℕ → Bool
      linked u v = is_in (adj v) u || any (is_in (adj u)) (adj v)

      found : (u v : ℕ) → is_in xs u ≡ true → is_in ys v ≡ true → linked u v ≡ true → any (λ u. any (linked u) ys) xs ≡ true
      found u v a b c = any_of (λ u. any (linked u) ys) xs u a (any_of (linked u) ys v b c)

      joined : (u v : ℕ) → is_in xs u ≡ true → is_in ys v ≡ true → is_in (adj v) u ≡ true → any (λ u. any (linked u) ys) xs ≡ true
      joined u v a b c = found u v a b (rw c refl)

      one : (v : ℕ) → is_in ys v ≡ true → near adj 1 xs v ≡ true → any (λ u. any (linked u) ys) xs ≡ true
      one v b h = go (near_cases adj 0 xs v h)
        where
          go : (is_in xs v ≡ true) ⊎ ((u : ℕ) × (is_in (adj v) u ≡ true) × (is_in xs u ≡ true)) → any (λ u. any (linked u) ys) xs ≡ true
          go (inl a) = absurd (disjoint v a b)
          go (inr (u, c, a)) = joined u v a b c

      to : any (near adj 2 xs) ys ≡ true → any (λ u. any (linked u) ys) xs ≡ true
      to h = let (v, b, k) = any-get (near adj 2 xs) ys h in go v b (near_cases adj 1 xs v k)
        where
          go : (v : ℕ) → is_in ys v ≡ true → (near adj 1 xs v ≡ true) ⊎ ((x : ℕ) × (is_in (adj v) x ≡ true) × (near adj 1 xs x ≡ true)) → any (λ u. any (linked u) ys) xs ≡ true
          go v b (inl k) = one v b k
          go v b (inr (x, c, k)) = by (near_cases adj 0 xs x k)
            where
              by : (is_in xs x ≡ true) ⊎ ((u : ℕ) × (is_in (adj x) u ≡ true) × (is_in xs u ≡ true)) → any (λ u. any (linked u) ys) xs ≡ true
              by (inl a) = joined x v a b c
              by (inr (u, d, a)) = found u v a b (rw (any_of (is_in (adj u)) (adj v) x c (G.both u x d)) (or_true (is_in (adj v) u)))

      fro : any (λ u. any (linked u) ys) xs ≡ true → any (near adj 2 xs) ys ≡ true
      fro h =
          let (u, a, k) = any-get (λ u. any (linked u) ys) xs h in
          let (v, b, l) = any-get (linked u) ys k in
          any_of (near adj 2 xs) ys v b (go u v a (or_cases (is_in (adj v) u) (any (is_in (adj u)) (adj v)) l))
        where
          go : (u v : ℕ) → is_in xs u ≡ true → (is_in (adj v) u ≡ true) ⊎ (any (is_in (adj u)) (adj v) ≡ true) → near adj 2 xs v ≡ true
          go u v a (inl c) = near-stay adj 1 xs v (near_step adj 0 xs u v c a)
          go u v a (inr k) = let (x, c, d) = any-get (is_in (adj u)) (adj v) k in near_step adj 1 xs x v c (near_step adj 0 xs u x (G.both x u d) a)

-- ---- the theorem

smaller : (m : Matrix) (o : Plan) (j k : ℕ) → j ≤ k → is_sound_at k m o ≡ true → is_sound_at j m o ≡ true
unfolding is_sound_at
smaller m o j k l h =
    let adj = neighbours m in
    sound_weaker (beyond adj k) (beyond adj j) m.n o.order o.groups (λ xs ys _. beyond-smaller adj j k l xs ys) h

-- in a symmetric graph a plan sound at 2 is sound by document 01
pub sound-two : {adj : ℕ → List ℕ} {n : ℕ} → Graph adj n → (order : List ℕ) (gs : List Group) → sound (beyond adj 2) n order gs ≡ sound (apart adj) n order gs
sound-two {adj} {n} graph order gs =
    both_ways (sound (beyond adj 2) n order gs) (sound (apart adj) n order gs)
    (sound_weaker (beyond adj 2) (apart adj) n order gs (λ xs ys d h. sym (beyond-two adj graph xs ys d) ∙ h))
    (sound_weaker (apart adj) (beyond adj 2) n order gs (λ xs ys d h. beyond-two adj graph xs ys d ∙ h))

two : (m : Matrix) (o : Plan) → is_matrix m ≡ true → is_sound_at 2 m o ≡ is_sound m o
unfolding is_sound_at is_sound
two m o ok = sound-two (graph m ok) o.order o.groups

pub distances : Distances
distances = record {
  smaller = smaller;
  two = two;
  enough = λ m o k ok l h. sym (two m o ok) ∙ smaller m o 2 k l h;
}
