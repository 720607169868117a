-- The depths of a sound plan. Each index of the test's path is as deep as the path is long after it.
use mathlib.Core.Path.{◌≡◌, refl, sym, ap, ◌∙◌}
use mathlib.Core.Bool.{Bool, true, false, cond}
use mathlib.Core.List.{List, [], ◌∷◌}
use Prim.Native.Nat.{ℕ, suc, ◌≤◌, ◌<◌}
use native.Mathlib.Omega.{arith}
use lib.Dec.{eqb}
use lib.ListN.{length, drop, length-drop}
use lib.Seq.{drop-cons}
use borrow.Author.Tests.{eqb-true, eqb-false}
use Rattle.base.specs.Lists.{from_first}
use Rattle.base.proofs.Integers.{never}
use Rattle.matrix.specs.Matrix.{neighbours}
use Rattle.plan.specs.Groups.{Group, of_fields}
use Rattle.plan.specs.Sound.{depth_first, apart, sound, is_sound}
use Rattle.plan.specs.Depths.{group_at, Depths}
use Rattle.plan.proofs.Records.{ancestors, Step, step_of}
use Rattle.plan.proofs.Sound.{sound_facts}

module _ (all : List Group) where
  abbrev Deep : List ℕ → Type 0
  Deep [] = Unit {0}
  Deep (x ∷ xs) = ((group_at all x).depth ≡ length xs) × Deep xs

  -- so is the path from the parent on
  deep_up : (p : ℕ) (path : List ℕ) → Deep path → 1 ≤ length (from_first (eqb p) path)
      → Deep (from_first (eqb p) path) × (length (from_first (eqb p) path) ≡ suc (group_at all p).depth)
  deep_up p [] d l = absurd (omega arith)
  deep_up p (x ∷ xs) d l = go (eqb p x) refl l (deep_up p xs d.1)
    where
      go : (b : Bool) → eqb p x ≡ b → 1 ≤ length (cond b (x ∷ xs) (from_first (eqb p) xs))
          → (1 ≤ length (from_first (eqb p) xs) → Deep (from_first (eqb p) xs) × (length (from_first (eqb p) xs) ≡ suc (group_at all p).depth))
          → Deep (cond b (x ∷ xs) (from_first (eqb p) xs)) × (length (cond b (x ∷ xs) (from_first (eqb p) xs)) ≡ suc (group_at all p).depth)
      go true e l ih = (d, ap suc (rw (eqb-true p x e) (sym d.0)))
      go false e l ih = ih l

  -- the records from an index on
  from : (i : ℕ) (g : Group) (gs : List Group) → drop i all ≡ g ∷ gs → (group_at all i ≡ g) × (drop (suc i) all ≡ gs)
  from i g gs e =
      let long : i < length all = omega (arith, ap (λ (l : List Group). length l) e, length-drop i all) in
      let z = sym (drop-cons all i (of_fields []) long) ∙ e in
      (cc, cc)

  deeper : (path : List ℕ) (i : ℕ) (gs : List Group) → drop i all ≡ gs → Deep path → depth_first path i gs ≡ true
      → (k : ℕ) → i ≤ k → k < length all → (group_at all k).depth ≡ suc (group_at all (group_at all k).parent).depth
  deeper path i [] e d h k lo hi = absurd (omega (arith, ap (λ (l : List Group). length l) e, length-drop i all))
  deeper path i (g ∷ gs) e d h k lo hi = go (eqb k i) refl (deeper (i ∷ ancestors path g) (suc i) gs (from i g gs e).1 next s.rest k)
    where
      s : Step path i g gs
      s = step_of path i g gs h

      up : Deep (ancestors path g) × (length (ancestors path g) ≡ suc (group_at all g.parent).depth)
      up = deep_up g.parent path d s.some

      next : Deep (i ∷ ancestors path g)
      next = (rw (from i g gs e).0 s.depth, up.0)

      go : (b : Bool) → eqb k i ≡ b → (suc i ≤ k → k < length all → (group_at all k).depth ≡ suc (group_at all (group_at all k).parent).depth)
          → (group_at all k).depth ≡ suc (group_at all (group_at all k).parent).depth
      go true q ih = rw (eqb-true k i q, (from i g gs e).0) (s.depth ∙ up.1)
      go false q ih = ih (omega (arith, eqb-false k i q)) hi

module _ (far : List ℕ → List ℕ → Bool) (n : ℕ) (order : List ℕ) where
  whole_deep : (gs : List Group) → sound far n order gs ≡ true → (group_at gs 0).depth ≡ 0
  unfolding sound
  whole_deep [] h = never h
  whole_deep (g ∷ gs) h = (sound_facts far n order g gs h).depth

  others_deep : (gs : List Group) → sound far n order gs ≡ true → (i : ℕ) → 0 < i → i < length gs → (group_at gs i).depth ≡ suc (group_at gs (group_at gs i).parent).depth
  unfolding sound
  others_deep [] h i lo hi = never h
  others_deep (g ∷ gs) h i lo hi = let f = sound_facts far n order g gs h in deeper (g ∷ gs) (0 ∷ []) 1 gs refl (f.depth, tt) f.in_order i lo hi

-- the theorem
pub depths : Depths
unfolding is_sound
depths = record {
  whole = λ m p h. whole_deep (apart (neighbours m)) m.n p.order p.groups h;
  others = λ m p h. others_deep (apart (neighbours m)) m.n p.order p.groups h;
}
