-- Which groups have an unfinished leaf, and which siblings have an open red group: laws, and what changes when more
-- leaves are finished.
use mathlib.Core.Path.{◌≡◌, refl, sym, ap}
use mathlib.Core.Logic.{◌⊎◌, inl, inr}
use mathlib.Core.Bool.{Bool, true, not, ◌&&◌, ◌||◌}
use lib.Dec.{eqb}
use borrow.Author.Tests.{eqb-true, eq-eqb}
use Rattle.base.proofs.Booleans.{and_left, and_right, or_true, or_false, or_cases, or_mono}
use Rattle.plan.specs.Groups.{Group, red}
use Rattle.run.specs.Tree.{Tree, none, node, unfinished, red_open}

module _ (fin : Group → Bool) (g : Group) (below next : Tree) where
  -- an unfinished leaf is in the first group or in the later siblings
  pub unfinished-split : unfinished fin (node g below next) ≡ unfinished fin (node g below none) || unfinished fin next
  unfolding unfinished
  unfinished-split = go below
    where
      go : (B : Tree) → unfinished fin (node g B next) ≡ unfinished fin (node g B none) || unfinished fin next
      go none = ap (λ (b : Bool). b || unfinished fin next) (sym (or_false (not (fin g))))
      go (node k kb kn) = ap (λ (b : Bool). b || unfinished fin next) (sym (or_false (unfinished fin (node k kb kn))))

  -- a red group with an unfinished leaf is open
  pub red-here : g.colour ≡ red → unfinished fin (node g below none) ≡ true → red_open fin (node g below next) ≡ true
  unfolding red_open
  red-here c u = rw (eq-eqb g.colour red c, u) refl

  -- .. among later siblings too
  pub red-next : red_open fin next ≡ true → red_open fin (node g below next) ≡ true
  unfolding red_open
  red-next h = rw h (or_true (eqb g.colour red && unfinished fin (node g below none)))

  -- and there are no other open red groups
  pub red-is : red_open fin (node g below next) ≡ true → ((g.colour ≡ red) × (unfinished fin (node g below none) ≡ true)) ⊎ (red_open fin next ≡ true)
  unfolding red_open
  red-is h = go (or_cases (is_red && unfinished fin (node g below none)) (red_open fin next) h)
    where
      is_red : Bool
      is_red = eqb g.colour red

      go : (is_red && unfinished fin (node g below none) ≡ true) ⊎ (red_open fin next ≡ true) → ((g.colour ≡ red) × (unfinished fin (node g below none) ≡ true)) ⊎ (red_open fin next ≡ true)
      go (inl e) = inl (eqb-true g.colour red (and_left is_red (unfinished fin (node g below none)) e), and_right is_red (unfinished fin (node g below none)) e)
      go (inr e) = inr e

-- ---- more leaves are finished

module _ (fin new : Group → Bool) (grows : (g : Group) → not (new g) ≡ true → not (fin g) ≡ true) where
  -- an unfinished leaf was one before
  pub unfinished_mono : (T : Tree) → unfinished new T ≡ true → unfinished fin T ≡ true
  unfolding unfinished
  unfinished_mono none h = h
  unfinished_mono (node g none next) h = or_mono (not (new g)) (unfinished new next) (not (fin g)) (unfinished fin next) (grows g) (unfinished_mono next) h
  unfinished_mono (node g (node k kb kn) next) h =
      or_mono (unfinished new (node k kb kn)) (unfinished new next) (unfinished fin (node k kb kn)) (unfinished fin next) (unfinished_mono (node k kb kn)) (unfinished_mono next) h

  -- so was an open red group
  pub red_mono : (T : Tree) → red_open new T ≡ true → red_open fin T ≡ true
  unfolding red_open
  red_mono none h = h
  red_mono (node g below next) h = go (red-is new g below next h) (red_mono next)
    where
      go : ((g.colour ≡ red) × (unfinished new (node g below none) ≡ true)) ⊎ (red_open new next ≡ true) → (red_open new next ≡ true → red_open fin next ≡ true) → red_open fin (node g below next) ≡ true
      go (inl (c, u)) ih = red-here fin g below next c (unfinished_mono (node g below none) u)
      go (inr e) ih = red-next fin g below next (ih e)
