-- The children of a group: the records with its index as their parent.
use mathlib.Core.Path.{◌≡◌, refl}
use mathlib.Core.Logic.{◌≢◌}
use mathlib.Core.List.{List, [], ◌∷◌, ◌++◌}
use Prim.Native.Nat.{ℕ}
use lib.Dec.{eqb}
use borrow.Author.Tests.{eq-eqb, ne_eqb}
use Rattle.base.proofs.Lists.{filter-append}
use Rattle.base.proofs.Each.{Each}
use Rattle.plan.specs.Groups.{Group}
use Rattle.plan.specs.Sound.{children}

-- of two lists
pub children-append : (i : ℕ) (gs hs : List Group) → children i (gs ++ hs) ≡ children i gs ++ children i hs
unfolding children
children-append i gs hs = filter-append (λ g. eqb g.parent i) gs hs

-- of a list whose first record has another parent
pub children_skip : (i : ℕ) (g : Group) (gs : List Group) → g.parent ≢ i → children i (g ∷ gs) ≡ children i gs
unfolding children
children_skip i g gs d = rw (ne_eqb g.parent i d) refl

-- .. or this one
pub children-keep : (i : ℕ) (g : Group) (gs : List Group) → g.parent ≡ i → children i (g ∷ gs) ≡ g ∷ children i gs
unfolding children
children-keep i g gs e = rw (eq-eqb g.parent i e) refl

-- of a list where no record has it
pub children-none : (i : ℕ) (gs : List Group) → Each (λ g. g.parent ≢ i) gs → children i gs ≡ []
unfolding children
children-none i [] h = refl
children-none i (g ∷ gs) h = rw (ne_eqb g.parent i h.0) (children-none i gs h.1)
