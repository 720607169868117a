-- The tests of a group's children in the code's order, and one group after another.
use mathlib.Core.Path.{◌≡◌, refl, ap, ◌∙◌}
use mathlib.Core.Bool.{Bool, true, false, ◌&&◌}
use mathlib.Core.List.{List, [], ◌∷◌}
use Prim.Native.Nat.{ℕ, ◌+◌, ◌≤◌, ◌<◌}
use native.Mathlib.Numerals.{add-one}
use lib.ListN.{drop}
use Rattle.plan.specs.Groups.{Group, red, blue, records}
use Rattle.plan.specs.Sound.{children, like_apart, children_sound, all_sound}
use Rattle.plan.specs.Code.Checks.{record_at, of_colour, tiles}
use Rattle.plan.proofs.FlatRecords.{records_at, records-none}
use Rattle.plan.proofs.Spread.{tiles_spread}
use Rattle.plan.proofs.Colours.{colour_by_colour}

-- a group's children are sound if they tile it and are apart
tests : (far : List ℕ → List ℕ → Bool) (order : List ℕ) (g : Group) (ks : List Group) → children_sound far order g ks ≡ tiles g ks && like_apart far order ks
unfolding children_sound tiles like_apart
tests far order g [] = refl
tests far order g (k ∷ ks) = refl

pub tiles_fail : (far : List ℕ → List ℕ → Bool) (order : List ℕ) (g : Group) (ks : List Group) → tiles g ks ≡ false → children_sound far order g ks ≡ false
tiles_fail far order g ks h = tests far order g ks ∙ rw h

pub sound-colours : (far : List ℕ → List ℕ → Bool) (order : List ℕ) (g : Group) (ks : List Group) → tiles g ks ≡ true
    → children_sound far order g ks ≡ like_apart far order (of_colour red ks) && like_apart far order (of_colour blue ks)
sound-colours far order g ks h = tests far order g ks ∙ rw h (colour_by_colour far order ks (tiles_spread g ks h).colours)

-- one group after another
pub all-next : (far : List ℕ → List ℕ → Bool) (order : List ℕ) (below : List Group) (count k : ℕ) (groups : List ℕ) → k < count
    → all_sound far order below k (drop k (records count groups)) ≡ children_sound far order (record_at groups k) (children k below) && all_sound far order below (k + 1) (drop (k + 1) (records count groups))
unfolding all_sound
all-next far order below count k groups l = rw (records_at count k groups l, add-one k)

pub all-last : (far : List ℕ → List ℕ → Bool) (order : List ℕ) (below : List Group) (count k : ℕ) (groups : List ℕ) → count ≤ k → all_sound far order below k (drop k (records count groups)) ≡ true
unfolding all_sound
all-last far order below count k groups l = ap (all_sound far order below k) (records-none count k groups l)
