-- Which groups have an unfinished leaf, as tests over the flat list of records. `gs` are the records from index i on.
use mathlib.Core.Path.{◌≡◌, refl, ap, ◌∙◌}
use mathlib.Core.Bool.{Bool, true, false, not, ◌&&◌, ◌||◌, cond}
use mathlib.Core.List.{List, [], ◌∷◌}
use Prim.Native.Nat.{ℕ, suc}
use lib.Dec.{eqb}
use Rattle.base.proofs.Booleans.{or_false}
use Rattle.plan.specs.Groups.{Group, red}
use Rattle.run.specs.Tree.{Tree, none, node, forest, unfinished, red_open}
use Rattle.tables.specs.Code.Laid.{has_child}

module _ (fin : Group → Bool) where
  -- some child of the group at index up has, or is, an unfinished leaf
  unfoldable pub open_children : (up i : ℕ) → List Group → Bool
  open_children up i [] = false
  open_children up i (g ∷ gs) = (eqb g.parent up && cond (has_child i gs) (open_children i (suc i) gs) (not (fin g))) || open_children up (suc i) gs

  -- the group g at index i has, or is, an unfinished leaf
  abbrev pub open_at : ℕ → Group → List Group → Bool
  open_at i g gs = cond (has_child i gs) (open_children i (suc i) gs) (not (fin g))

  -- some red child of the group at index up has, or is, an unfinished leaf
  unfoldable pub open_reds : (up i : ℕ) → List Group → Bool
  open_reds up i [] = false
  open_reds up i (g ∷ gs) = (eqb g.parent up && (eqb g.colour red && open_at i g gs)) || open_reds up (suc i) gs

  -- ---- they are the tree's

  abbrev is_node : Tree → Bool
  is_node none = false
  is_node (node g below next) = true

  forest-child : (up i : ℕ) (gs : List Group) → is_node (forest up i gs) ≡ has_child up gs
  unfolding forest has_child
  forest-child up i [] = refl
  forest-child up i (g ∷ gs) = go (eqb g.parent up) refl (forest-child up (suc i) gs)
    where
      go : (b : Bool) → eqb g.parent up ≡ b → is_node (forest up (suc i) gs) ≡ has_child up gs → is_node (forest up i (g ∷ gs)) ≡ eqb g.parent up || has_child up gs
      go true e ih = rw (e, forest) refl
      go false e ih = rw (e, forest) ih

  unfinished-node : (g : Group) (B next : Tree) → unfinished fin (node g B next) ≡ cond (is_node B) (unfinished fin B) (not (fin g)) || unfinished fin next
  unfolding unfinished
  unfinished-node g none next = refl
  unfinished-node g (node k kb kn) next = refl

  -- an unfinished leaf below the group at index up
  pub open_flat : (up i : ℕ) (gs : List Group) → unfinished fin (forest up i gs) ≡ open_children up i gs
  unfolding forest open_children unfinished
  open_flat up i [] = refl
  open_flat up i (g ∷ gs) = go (eqb g.parent up) refl (open_flat i (suc i) gs) (open_flat up (suc i) gs)
    where
      go : (b : Bool) → eqb g.parent up ≡ b → unfinished fin (forest i (suc i) gs) ≡ open_children i (suc i) gs → unfinished fin (forest up (suc i) gs) ≡ open_children up (suc i) gs
          → unfinished fin (forest up i (g ∷ gs)) ≡ (eqb g.parent up && open_at i g gs) || open_children up (suc i) gs
      go true e x y = rw (e, forest) (unfinished-node g (forest i (suc i) gs) (forest up (suc i) gs) ∙ rw (forest-child i (suc i) gs, x, y) refl)
      go false e x y = rw (e, forest) y

  -- an open red child of the group at index up
  pub red-flat : (up i : ℕ) (gs : List Group) → red_open fin (forest up i gs) ≡ open_reds up i gs
  unfolding forest open_reds red_open unfinished
  red-flat up i [] = refl
  red-flat up i (g ∷ gs) = go (eqb g.parent up) refl (red-flat up (suc i) gs)
    where
      go : (b : Bool) → eqb g.parent up ≡ b → red_open fin (forest up (suc i) gs) ≡ open_reds up (suc i) gs
          → red_open fin (forest up i (g ∷ gs)) ≡ (eqb g.parent up && (eqb g.colour red && open_at i g gs)) || open_reds up (suc i) gs
      go true e x = rw (e, forest) (rw x (ap (λ (b : Bool). (eqb g.colour red && b) || open_reds up (suc i) gs)
          (unfinished-node g (forest i (suc i) gs) none ∙ rw (forest-child i (suc i) gs, open_flat i (suc i) gs) (or_false (open_at i g gs)))))
      go false e x = rw (e, forest) x
