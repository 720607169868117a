-- The leaf that holds a position is the one that the way down finds.
use mathlib.Core.Path.{◌≡◌, refl, sym, ◌∙◌, subst}
use mathlib.Core.Logic.{◌⊎◌, inl, inr}
use mathlib.Core.Bool.{Bool, true, false, true≢false}
use mathlib.Core.List.{List, [], ◌∷◌}
use Prim.Native.Nat.{ℕ, zero, suc, ◌+◌, ◌≤◌, ◌<◌}
use native.Mathlib.Omega.{arith}
use lib.ListN.{length, get_or}
use lib.Dec.{eqb}
use borrow.Author.Tests.{eqb-true, eq-eqb}
use Rattle.base.specs.Lists.{is_in}
use Rattle.base.proofs.Booleans.{or_cases, or_right_false}
use Rattle.plan.specs.Groups.{Group}
use Rattle.plan.specs.Sound.{apart, depth_first, children, sound}
use Rattle.plan.proofs.Records.{ancestors, Step, step_of, Before, before-step, before-one, Sounds}
use Rattle.plan.proofs.Sound.{sound_facts}
use Rattle.run.specs.Tree.{holds}
use Rattle.tables.specs.Code.Laid.{has_child}
use Rattle.tables.proofs.WayDown.{held, leaf_from, leaf_in, leaf_out, leaf-here, child-held}
use Rattle.tables.proofs.Nesting.{child-inside, Separate, separate}

module _ (q : ℕ) where
  -- the record at index i, one of gs from index k on, is a leaf and holds q
  abbrev pub LeafAt : (k : ℕ) → List Group → ℕ → Type 0
  LeafAt k [] i = ⊥
  LeafAt k (g ∷ gs) i = ((k ≡ i) × (holds g q ≡ true) × (has_child k gs ≡ false)) ⊎ LeafAt (suc k) gs i

  leaf-after : (k : ℕ) (gs : List Group) (i : ℕ) (d : Group) → i < length gs → holds (get_or gs i d) q ≡ true → has_child (k + i) gs ≡ false → LeafAt k gs (k + i)
  unfolding has_child
  leaf-after k [] i d l h c = absurd (omega arith)
  leaf-after k (g ∷ gs) zero d l h c =
      let e : k ≡ k + 0 = omega arith in
      inl (e, h, subst (λ (y : ℕ). has_child y gs ≡ false) (sym e) (or_right_false (eqb g.parent (k + 0)) (has_child (k + 0) gs) c))
  leaf-after k (g ∷ gs) (suc i) d l h c =
      let e : suc k + i ≡ k + suc i = omega arith in
      inr (subst (LeafAt (suc k) gs) e (leaf-after (suc k) gs i d (omega arith) h (subst (λ (y : ℕ). has_child y gs ≡ false) (sym e) (or_right_false (eqb g.parent (k + suc i)) (has_child (k + suc i) gs) c))))

  -- .. by its place: a record that holds q, where none of the records gs after the whole g is its child
  pub leaf_at : (g : Group) (gs : List Group) (i : ℕ) (d : Group) → i < length (g ∷ gs) → holds (get_or (g ∷ gs) i d) q ≡ true → has_child i gs ≡ false → LeafAt 0 (g ∷ gs) i
  leaf_at g gs zero d l h c = inl (refl, h, c)
  leaf_at g gs (suc i) d l h c =
      let e : 1 + i ≡ suc i = omega arith in
      inr (subst (LeafAt 1 gs) e (leaf-after 1 gs i d (omega arith) h (subst (λ (y : ℕ). has_child y gs ≡ false) (sym e) c)))

  leaf-past : (k : ℕ) (gs : List Group) (i : ℕ) → LeafAt k gs i → k ≤ i
  leaf-past k [] i h = absurd h
  leaf-past k (g ∷ gs) i (inl h) = omega (arith, h.0)
  leaf-past k (g ∷ gs) i (inr h) = omega (arith, leaf-past (suc k) gs i h)

  -- from some group of the path
  abbrev FoundFrom : List ℕ → ℕ → List Group → ℕ → Type 0
  FoundFrom path k gs i = (m : ℕ) × (is_in path m ≡ true) × (leaf_from q m k gs ≡ i)

  find : (adj : ℕ → List ℕ) (order path : List ℕ) (k : ℕ) (gs : List Group) → depth_first path k gs ≡ true → Before k path → Sounds (apart adj) order k gs → Separate q gs
      → (i : ℕ) → LeafAt k gs i → FoundFrom path k gs i
  find adj order path k [] d b n s i h = absurd h
  find adj order path k (g ∷ gs) d b n s i h = go h (find adj order (k ∷ ancestors path g) (suc k) gs p.rest (before-step path k g gs p b) n.1 s.1 i)
    where
      p : Step path k g gs
      p = step_of path k g gs d

      into : holds g q ≡ true → leaf_from q g.parent k (g ∷ gs) ≡ leaf_from q k (suc k) gs
      into x = leaf_in q g.parent k g gs (rw (eq-eqb g.parent g.parent refl, x) refl)

      -- below g itself, or below an ancestor past g
      later : LeafAt (suc k) gs i → (m : ℕ) → leaf_from q m (suc k) gs ≡ i → (eqb m k ≡ true) ⊎ (is_in (ancestors path g) m ≡ true) → FoundFrom path k (g ∷ gs) i
      later x m e (inl y) = (g.parent, p.parent_in, into (by (held q (children k gs)) refl) ∙ at_k)
        where
          at_k : leaf_from q k (suc k) gs ≡ i
          at_k = subst (λ (z : ℕ). leaf_from q z (suc k) gs ≡ i) (eqb-true m k y) e

          by : (c : Bool) → held q (children k gs) ≡ c → holds g q ≡ true
          by true z = child-inside q adj order g (children k gs) n.0 z
          by false z = absurd (omega (arith, leaf-here q k (suc k) gs z, at_k, leaf-past (suc k) gs i x))
      later x m e (inr y) = (m, p.in_path m y, by (eqb g.parent m) refl (holds g q) refl)
        where
          by : (c : Bool) → eqb g.parent m ≡ c → (c' : Bool) → holds g q ≡ c' → leaf_from q m k (g ∷ gs) ≡ i
          by true z true z' =
              absurd (omega (arith, leaf-here q m (suc k) gs (subst (λ (y : ℕ). held q (children y gs) ≡ false) (eqb-true g.parent m z) (s.0 z')), e, leaf-past (suc k) gs i x, b m (p.in_path m y)))
          by true z false z' = leaf_out q m k g gs (rw (z, z') refl) ∙ e
          by false z c' z' = leaf_out q m k g gs (rw z refl) ∙ e

      go : ((k ≡ i) × (holds g q ≡ true) × (has_child k gs ≡ false)) ⊎ LeafAt (suc k) gs i → (LeafAt (suc k) gs i → FoundFrom (k ∷ ancestors path g) (suc k) gs i) → FoundFrom path k (g ∷ gs) i
      go (inl x) ih = (g.parent, p.parent_in, into x.1 ∙ leaf-here q k (suc k) gs (child-held q k gs x.2) ∙ x.0)
      go (inr x) ih = let (m, a, e) = ih x in later x m e (or_cases (eqb m k) (is_in (ancestors path g) m) a)

-- the way down from the whole g ends at the leaf that holds q
pub leaf_index : (adj : ℕ → List ℕ) (n : ℕ) (order : List ℕ) (g : Group) (gs : List Group) → sound (apart adj) n order (g ∷ gs) ≡ true
    → (q i : ℕ) → LeafAt q 0 (g ∷ gs) i → leaf_from q 0 1 gs ≡ i
leaf_index adj n order g gs ok q i (inl x) = leaf-here q 0 1 gs (child-held q 0 gs x.2) ∙ x.0
leaf_index adj n order g gs ok q i (inr x) =
    let f = sound_facts (apart adj) n order g gs ok in
    let (m, a, e) = find q adj order (0 ∷ []) 1 gs f.in_order before-one f.under.1 (separate q adj order g gs f.down f.under) i x in
    root m (or_cases (eqb m 0) false a) e
  where
    root : (m : ℕ) → (eqb m 0 ≡ true) ⊎ (false ≡ true) → leaf_from q m 1 gs ≡ i → leaf_from q 0 1 gs ≡ i
    root m (inl y) e = subst (λ (z : ℕ). leaf_from q z 1 gs ≡ i) (eqb-true m 0 y) e
    root m (inr y) e = absurd (true≢false (sym y))
