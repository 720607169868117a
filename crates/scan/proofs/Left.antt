-- What is left of a list from a position on.
use mathlib.Core.Path.{◌≡◌, ap, ◌∙◌}
use mathlib.Core.List.{List, ◌∷◌}
use Prim.Native.Nat.{ℕ, ◌+◌, ◌-◌, ◌≤◌, ◌<◌}
use native.Mathlib.Numerals.{add-one}
use native.Mathlib.Omega.{arith}
use lib.ListN.{length, get_or, drop}
use lib.Seq.{drop-cons, drop-drop}

-- the first of what is left, and the rest
pub left-cons : (s : List ℕ) (i : ℕ) → i < length s → drop i s ≡ get_or s i 0 ∷ drop (i + 1) s
left-cons s i h = rw (add-one, drop-cons s i 0)

-- a later position, counted from an earlier one
pub left-later : (s : List ℕ) (at p : ℕ) → at ≤ p → drop (p - at) (drop at s) ≡ drop p s
left-later s at p h = let e : at + (p - at) ≡ p = omega arith in drop-drop (p - at) at s ∙ ap (λ (i : ℕ). drop i s) e
