-- The groups of a slice in a flat list, one record after another.
use mathlib.Core.Path.{◌≡◌, refl, sym, ◌∙◌}
use mathlib.Core.List.{List, [], ◌∷◌, ◌++◌, map, map-append, append-nil}
use Prim.Native.Nat.{ℕ, ◌+◌, ◌*◌, ◌≤◌, ◌<◌}
use native.Mathlib.Numerals.{add-one}
use native.Mathlib.Omega.{arith}
use lib.ListN.{length, take, get_or}
use lib.Seq.{take-suc}
use Rattle.plan.specs.Groups.{width, fields_of, flat, group_of}
use Rattle.plan.specs.Sound.{max_groups}
use Rattle.plan.specs.declared.fields.Group.{Group}
use Rattle.cycle.proofs.Holding.{flat_append}
use Rattle.groups.specs.Code.Flattened.{few, Flattened}

-- a list of numbers that begins with the records of the first k groups
pub record Begun (gs : List Group) : Type 0 where
  pub k : ℕ
  pub numbers : List ℕ
  pub within : k ≤ length gs
  pub in-plan : k ≤ max_groups
  pub is : take (width * k) numbers ≡ flat (map group_of (take k gs))

pub no_record : (gs : List Group) (numbers : List ℕ) → take (width * 0) numbers ≡ flat (map group_of (take 0 gs))
unfolding flat
no_record gs numbers = refl

-- with no record
abbrev pub begin : (gs : List Group) (numbers : List ℕ) → Begun gs
begin gs numbers = record { k = 0; numbers = numbers; within = omega arith; in-plan = omega arith; is = no_record gs numbers }

pub one_more : (gs : List Group) (k : ℕ) (d : Group) → k < length gs → flat (map group_of (take (k + 1) gs)) ≡ flat (map group_of (take k gs)) ++ fields_of (group_of (get_or gs k d))
unfolding flat
one_more gs k d l =
    rw (add-one k, take-suc gs k d l, map-append group_of (take k gs) (get_or gs k d ∷ []), flat_append (map group_of (take k gs)) (group_of (get_or gs k d) ∷ []))
    (rw (append-nil (fields_of (group_of (get_or gs k d)))))

-- with one more
abbrev pub next : {gs : List Group} (t : Begun gs) (d : Group) → t.k < length gs → t.k < max_groups → (ns : List ℕ)
    → take (width * (t.k + 1)) ns ≡ take (width * t.k) t.numbers ++ fields_of (group_of (get_or gs t.k d)) → Begun gs
next {gs} t d l f ns e = record {
  k = t.k + 1;
  numbers = ns;
  within = omega arith;
  in-plan = omega arith;
  is = e ∙ rw t.is (sym (one_more gs t.k d l));
}

-- with as many as a plan may have
pub all-begun : {gs : List Group} (t : Begun gs) → few gs ≤ t.k → Flattened gs t.numbers
all-begun {gs} t m =
    let e : t.k ≡ few gs = omega arith in
    record { is = rw e at t.is }
