-- Entries put into a list, one after the other.
use Rattle.std.proofs.Common.{Option, Some, None}
use mathlib.Core.Path.{◌≡◌, refl, sym, ap, ◌∙◌}
use mathlib.Core.Logic.{inl, inr}
use mathlib.Core.Bool.{Bool, true, false, ◌&&◌}
use mathlib.Core.List.{List, [], ◌∷◌, ◌++◌, append_assoc, append-nil}
use Prim.Native.Nat.{◌+◌, ◌≤◌}
use native.Mathlib.Omega.{arith}
use lib.ListN.{length, length-append}
use Rattle.base.specs.Integers.{within}
use Rattle.base.proofs.Booleans.{and_false}
use Rattle.base.proofs.Lists.{all_append}
use Rattle.matrix.specs.Limits.{max_entries, max_value}
use Rattle.market.specs.Parse.{Triplet}
use Rattle.joined.specs.Code.Rows.{are_small, Added, Broken, Told}

-- ---- values within their limit

pub small-append : (xs ys : List Triplet) → are_small (xs ++ ys) ≡ are_small xs && are_small ys
unfolding are_small
small-append xs ys = all_append (λ (t : Triplet). within max_value t.value) xs ys

false_and : (a b : Bool) → a ≡ false → a && b ≡ false
false_and a b e = rw e

-- ---- entries

-- none
pub added_none : (es : List Triplet) → Added [] es es
unfolding are_small
added_none es = record { small = refl; is = sym (append-nil es) }

-- one
pub added_one : (es : List Triplet) (t : Triplet) → within max_value t.value ≡ true → Added (t ∷ []) es (es ++ t ∷ [])
unfolding are_small
added_one es t s = record { small = rw s; is = refl }

-- one whose value passes its limit, or for which there is no room
pub broken_large : (es : List Triplet) (t : Triplet) → within max_value t.value ≡ false → Broken (t ∷ []) es
unfolding are_small
broken_large es t s = inl (rw s)

pub broken_many : (es : List Triplet) (t : Triplet) → max_entries ≤ length es → Broken (t ∷ []) es
broken_many es t l = inr (omega arith)

-- more after them
module _ {xs es es₁ : List Triplet} (e : Added xs es es₁) (ys : List Triplet) where
  pub added_then : {es₂ : List Triplet} → Added ys es₁ es₂ → Added (xs ++ ys) es es₂
  added_then f = record {
    small = small-append xs ys ∙ rw (e.small, f.small);
    is = f.is ∙ ap (λ (ts : List Triplet). ts ++ ys) e.is ∙ append_assoc es xs ys;
  }

  pub broken_then : Broken ys es₁ → Broken (xs ++ ys) es
  broken_then (inl s) = inl (small-append xs ys ∙ rw s (and_false (are_small xs)))
  broken_then (inr k) = inr (let l : length es₁ ≡ length es + length xs = ap length e.is ∙ length-append es xs in omega (arith, k, l, length-append xs ys))

-- a limit is broken already
pub broken_stop : (xs es : List Triplet) → Broken xs es → (ys : List Triplet) → Broken (xs ++ ys) es
broken_stop xs es (inl s) ys = inl (small-append xs ys ∙ false_and (are_small xs) (are_small ys) s)
broken_stop xs es (inr k) ys = inr (omega (arith, k, length-append xs ys))

-- the same entries by another name
pub added_same : {xs ys : List Triplet} → xs ≡ ys → {es es' : List Triplet} → Added xs es es' → Added ys es es'
added_same e h = rw e at h

pub broken_same : {xs ys : List Triplet} → xs ≡ ys → (es : List Triplet) → Broken xs es → Broken ys es
broken_same e es h = rw e at h

-- .. as the code tells them
pub told_same : {xs ys : List Triplet} → xs ≡ ys → (es : List Triplet) (r : Option (Unit {0})) (es' : List Triplet) → Told xs es r es' → Told ys es r es'
told_same e es (Some u) es' h = added_same e h
told_same e es None es' h = broken_same e es h

pub told_then : {xs es es₁ : List Triplet} → Added xs es es₁ → (ys : List Triplet) (r : Option (Unit {0})) (es₂ : List Triplet) → Told ys es₁ r es₂ → Told (xs ++ ys) es r es₂
told_then e ys (Some u) es₂ h = added_then e ys h
told_then e ys None es₂ h = broken_then e ys h
