-- The children of a group are compared colour by colour.
use mathlib.Core.Path.{◌≡◌, refl, sym, ◌∙◌}
use mathlib.Core.Logic.{◌⊎◌, inl, inr}
use mathlib.Core.Bool.{Bool, true, false, not, ◌&&◌, ◌||◌}
use mathlib.Core.List.{List, [], ◌∷◌}
use Prim.Native.Nat.{ℕ}
use native.Mathlib.Omega.{arith}
use lib.Dec.{eqb}
use borrow.Author.Tests.{eqb-false, eq-eqb, ne_eqb}
use Rattle.base.specs.Lists.{keep, any}
use Rattle.base.proofs.Booleans.{and_false}
use Rattle.base.proofs.Each.{Each}
use Rattle.plan.specs.Groups.{Group, red, blue}
use Rattle.plan.specs.Sound.{stretch_of, like_apart}
use Rattle.plan.specs.Code.Checks.{of_colour}

module _ (far : List ℕ → List ℕ → Bool) (order : List ℕ) where
  -- a child that is like g and not far from it
  abbrev pub like : Group → Group → Bool
  like g h = eqb g.colour h.colour && not (far (stretch_of order g) (stretch_of order h))

  -- who is like g has its colour
  like_colour : (g : Group) (c : ℕ) (hs : List Group) → g.colour ≡ c → any (like g) (of_colour c hs) ≡ any (like g) hs
  like_colour g c [] e = refl
  like_colour g c (h ∷ hs) e = go (eqb h.colour c) refl (like_colour g c hs e)
    where
      go : (b : Bool) → eqb h.colour c ≡ b → any (like g) (of_colour c hs) ≡ any (like g) hs → any (like g) (keep (eqb h.colour c) h (of_colour c hs)) ≡ like g h || any (like g) hs
      go true f ih = rw (f, ih)
      go false f ih = rw (f, ne_eqb g.colour h.colour (λ (q : g.colour ≡ h.colour). eqb-false h.colour c f (sym q ∙ e))) ih

  -- the children compared colour by colour
  pub colour_by_colour : (gs : List Group) → Each (λ g. (g.colour ≡ red) ⊎ (g.colour ≡ blue)) gs
      → like_apart far order gs ≡ like_apart far order (of_colour red gs) && like_apart far order (of_colour blue gs)
  unfolding like_apart
  colour_by_colour [] each = refl
  colour_by_colour (g ∷ gs) each = go each.0 (colour_by_colour gs each.1)
    where
      assoc : (a b c : Bool) → a && (b && c) ≡ (a && b) && c
      assoc true b c = refl
      assoc false b c = refl

      swap : (a b c : Bool) → a && (b && c) ≡ b && (a && c)
      swap true b c = refl
      swap false b c = sym (and_false b)

      go : (g.colour ≡ red) ⊎ (g.colour ≡ blue) → like_apart far order gs ≡ like_apart far order (of_colour red gs) && like_apart far order (of_colour blue gs)
          → not (any (like g) gs) && like_apart far order gs
          ≡ like_apart far order (keep (eqb g.colour red) g (of_colour red gs)) && like_apart far order (keep (eqb g.colour blue) g (of_colour blue gs))
      go (inl e) ih =
          rw (eq-eqb g.colour red e, ne_eqb g.colour blue (λ (q : g.colour ≡ blue). omega arith), like_colour g red gs e, ih)
          (assoc (not (any (like g) gs)) (like_apart far order (of_colour red gs)) (like_apart far order (of_colour blue gs)))
      go (inr e) ih =
          rw (ne_eqb g.colour red (λ (q : g.colour ≡ red). omega arith), eq-eqb g.colour blue e, like_colour g blue gs e, ih)
          (swap (not (any (like g) gs)) (like_apart far order (of_colour red gs)) (like_apart far order (of_colour blue gs)))
