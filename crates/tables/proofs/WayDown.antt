-- The way down to a position, over the flat list of records: who blocks it on the way, and at which leaf it ends.
-- `gs` are the records from index i on, `opened up` says whether the group at index up has an open red child.
use mathlib.Core.Path.{◌≡◌, refl, sym, ◌∙◌}
use mathlib.Core.Logic.{◌⊎◌, inl, inr}
use mathlib.Core.Bool.{Bool, true, false, ◌&&◌, ◌||◌}
use mathlib.Core.List.{List, [], ◌∷◌}
use Prim.Native.Nat.{ℕ, suc, ◌≤◌, ◌<◌}
use native.Mathlib.Omega.{arith}
use lib.Dec.{eqb}
use borrow.Author.Tests.{ne_eqb}
use Rattle.base.specs.Lists.{filter, keep, any}
use Rattle.base.proofs.Booleans.{and_left, and_right, or_true, or_cases, or_left_false, or_right_false, clash}
use Rattle.plan.specs.Groups.{Group, blue}
use Rattle.plan.specs.Sound.{children}
use Rattle.plan.proofs.Records.{Down}
use Rattle.run.specs.Tree.{Tree, forest, holds, red_open, blocked}
use Rattle.tables.specs.Code.Laid.{has_child}
use Rattle.tables.proofs.FlatOpen.{open_reds, red-flat}

module _ (q : ℕ) where
  -- some record of the list holds q
  abbrev pub held : List Group → Bool
  held ks = any (λ h. holds h q) ks

  -- ---- who blocks q below the group at index up

  module _ (opened : ℕ → Bool) where
    -- a child that holds q, blue where a red sibling is open, or one below it
    unfoldable pub blocked_from : (up i : ℕ) → List Group → Bool
    blocked_from up i [] = false
    blocked_from up i (g ∷ gs) = (eqb g.parent up && (holds g q && ((eqb g.colour blue && opened up) || blocked_from i (suc i) gs))) || blocked_from up (suc i) gs

    -- only a child that holds q leads to one
    pub blocked-held : (up i : ℕ) (gs : List Group) → blocked_from up i gs ≡ true → held (children up gs) ≡ true
    unfolding blocked_from children
    blocked-held up i [] h = h
    blocked-held up i (g ∷ gs) h = go (eqb g.parent up) refl (or_cases (eqb g.parent up && (holds g q && inner)) (blocked_from up (suc i) gs) h) (blocked-held up (suc i) gs)
      where
        inner : Bool
        inner = (eqb g.colour blue && opened up) || blocked_from i (suc i) gs

        mine : List Group
        mine = filter (λ h. eqb h.parent up) gs

        go : (b : Bool) → eqb g.parent up ≡ b → (eqb g.parent up && (holds g q && inner) ≡ true) ⊎ (blocked_from up (suc i) gs ≡ true)
            → (blocked_from up (suc i) gs ≡ true → held mine ≡ true) → held (keep (eqb g.parent up) g mine) ≡ true
        go true e (inl x) ih = rw e (rw (and_left (holds g q) inner (and_right (eqb g.parent up) (holds g q && inner) x)) refl)
        go true e (inr x) ih = rw e (rw (ih x) (or_true (holds g q)))
        go false e (inl x) ih = absurd (clash (and_left (eqb g.parent up) (holds g q && inner) x) e)
        go false e (inr x) ih = rw e (ih x)

  -- it is the tree's test
  module _ (fin : Group → Bool) (opened : ℕ → Bool) where
    -- `opened` is right for the groups from index i on
    abbrev pub Right : ℕ → List Group → Type 0
    Right i gs = (k : ℕ) → i ≤ k → opened k ≡ open_reds fin k i gs

    right-next : (i : ℕ) (g : Group) (gs : List Group) → g.parent < i → Right i (g ∷ gs) → (k : ℕ) → i ≤ k → opened k ≡ open_reds fin k (suc i) gs
    unfolding open_reds
    right-next i g gs l s k h = s k h ∙ rw (ne_eqb g.parent k (λ e. omega arith)) refl

    -- the tree's test
    pub blocked-from : (up i : ℕ) (gs : List Group) (all : Tree) → Down i gs → Right i gs → red_open fin all ≡ opened up → blocked fin q all (forest up i gs) ≡ blocked_from opened up i gs
    unfolding forest blocked_from blocked
    blocked-from up i [] all d s r = refl
    blocked-from up i (g ∷ gs) all d s r =
        go (eqb g.parent up) refl
        (blocked-from i (suc i) gs (forest i (suc i) gs) d.1 next (red-flat fin i (suc i) gs ∙ sym (right-next i g gs d.0 s i (omega arith))))
        (blocked-from up (suc i) gs all d.1 next r)
      where
        next : Right (suc i) gs
        next k h = right-next i g gs d.0 s k (omega arith)

        go : (b : Bool) → eqb g.parent up ≡ b → blocked fin q (forest i (suc i) gs) (forest i (suc i) gs) ≡ blocked_from opened i (suc i) gs
            → blocked fin q all (forest up (suc i) gs) ≡ blocked_from opened up (suc i) gs
            → blocked fin q all (forest up i (g ∷ gs)) ≡ (eqb g.parent up && (holds g q && ((eqb g.colour blue && opened up) || blocked_from opened i (suc i) gs))) || blocked_from opened up (suc i) gs
        go true e x y = rw (e, forest) (rw (r, x, y) refl)
        go false e x y = rw (e, forest) y

  -- ---- the index of the leaf that holds q, from the group at index up down

  -- into the child that holds q, as long as there is one
  unfoldable pub leaf_from : (up i : ℕ) → List Group → ℕ
  leaf_from up i [] = up
  leaf_from up i (g ∷ gs) = elim (eqb g.parent up && holds g q) [ true ↦ leaf_from i (suc i) gs | false ↦ leaf_from up (suc i) gs ]

  module _ (up i : ℕ) (g : Group) (gs : List Group) where
    -- a child that holds q
    pub leaf_in : eqb g.parent up && holds g q ≡ true → leaf_from up i (g ∷ gs) ≡ leaf_from i (suc i) gs
    unfolding leaf_from
    leaf_in h = rw (h, leaf_from)

    -- any other record
    pub leaf_out : eqb g.parent up && holds g q ≡ false → leaf_from up i (g ∷ gs) ≡ leaf_from up (suc i) gs
    unfolding leaf_from
    leaf_out h = rw (h, leaf_from)

  -- no child holds q: the way ends
  pub leaf-here : (up i : ℕ) (gs : List Group) → held (children up gs) ≡ false → leaf_from up i gs ≡ up
  unfolding children leaf_from
  leaf-here up i [] h = refl
  leaf-here up i (g ∷ gs) h = go (eqb g.parent up) refl h (leaf-here up (suc i) gs)
    where
      mine : List Group
      mine = filter (λ h. eqb h.parent up) gs

      go : (b : Bool) → eqb g.parent up ≡ b → held (keep b g mine) ≡ false → (held mine ≡ false → leaf_from up (suc i) gs ≡ up) → leaf_from up i (g ∷ gs) ≡ up
      go true e x ih = leaf_out up i g gs (rw (e, or_left_false (holds g q) (held mine) x) refl) ∙ ih (or_right_false (holds g q) (held mine) x)
      go false e x ih = leaf_out up i g gs (rw e refl) ∙ ih x

  -- a group without children has none that holds q
  pub child-held : (up : ℕ) (gs : List Group) → has_child up gs ≡ false → held (children up gs) ≡ false
  unfolding children has_child
  child-held up [] h = refl
  child-held up (g ∷ gs) h = rw (or_left_false (eqb g.parent up) (has_child up gs) h) (child-held up gs (or_right_false (eqb g.parent up) (has_child up gs) h))
