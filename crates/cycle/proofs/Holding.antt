-- What lent lists hold after one planner and the next.
use mathlib.Core.Path.{◌≡◌, refl, sym, ap, ◌∙◌}
use mathlib.Core.List.{List, [], ◌++◌, map, map-append, append_assoc, append-nil}
use Prim.Native.Nat.{ℕ, ◌+◌, ◌*◌}
use native.Mathlib.Omega.{arith}
use lib.ListN.{take, length-append}
use Rattle.base.specs.Lists.{concat}
use Rattle.base.proofs.Lists.{concat-append}
use Rattle.plan.specs.Groups.{Group, Plan, width, fields_of, flat}
use Rattle.race.specs.Planner.{nothing, ◌then◌, leaf}
use Rattle.cycle.specs.Code.Records.{Holds}

pub flat_append : (gs hs : List Group) → flat (gs ++ hs) ≡ flat gs ++ flat hs
unfolding flat
flat_append gs hs = ap concat (map-append fields_of gs hs) ∙ concat-append (map fields_of gs) (map fields_of hs)

-- a leaf, once its record is written
pub holds-leaf : (g : Group) (T : List ℕ) (index : ℕ) (before records : List ℕ)
    → take (width * (index + 1)) records ≡ take (width * index) before ++ fields_of g → Holds (leaf g T) index before T records (index + 1)
unfolding leaf flat
holds-leaf g T index before records e = record { order_is = refl; count_is = omega arith; records_are = rw (append-nil (fields_of g)) e }

-- no group at all
pub holds-nothing : (index : ℕ) (records order : List ℕ) → order ≡ [] → Holds nothing index records order records index
unfolding nothing flat
holds-nothing index records order e = record { order_is = e; count_is = omega arith; records_are = sym (append-nil (take (width * index) records)) }

-- one plan and the next
pub holds_then : (a b : Plan) (i j k : ℕ) (before records after xs ys : List ℕ)
    → Holds a i before xs records j → Holds b j records ys after k → Holds (a then b) i before (xs ++ ys) after k
unfolding ◌then◌
holds_then a b i j k before records after xs ys f g = record {
  order_is = rw (f.order_is, g.order_is);
  count_is = omega (arith, f.count_is, g.count_is, length-append a.groups b.groups);
  records_are =
      g.records_are
      ∙ ap (λ (l : List ℕ). l ++ flat b.groups) f.records_are
      ∙ append_assoc (take (width * i) before) (flat a.groups) (flat b.groups)
      ∙ ap (λ (l : List ℕ). take (width * i) before ++ l) (sym (flat_append a.groups b.groups));
}
