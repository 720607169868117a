-- How many levels and workers a pair takes, and how many of its levels are red.
use mathlib.Core.Path.{◌≡◌, refl}
use mathlib.Core.Logic.{inl, inr}
use mathlib.Core.Bool.{Bool, true, false, ◌||◌, cond}
use mathlib.Core.List.{List, [], ◌∷◌}
use Prim.Native.Nat.{ℕ, zero, suc, ◌+◌, ◌*◌, ◌-◌, ◌≤◌}
use native.Mathlib.Omega.{arith}
use lib.Dec.{ltb, leb}
use lib.ListN.{length, take, drop, length-take}
use borrow.Author.Tests.{ltb-false, leb-false}
use Rattle.base.specs.Lists.{from_first, sum, distance}
use Rattle.base.proofs.Booleans.{or_left_false, or_right_false}
use Rattle.base.proofs.Each.{Each, each_map}
use Rattle.base.proofs.Best.{best-is}
use Rattle.extents.specs.PairLevels.{PairTakes, PairLevels}
use Rattle.extents.specs.Extents.{Policy, End, Extent, ends_from, nearest, off, serves, extent_of, extent_from, extent, cut_at, cut}

-- ---- ends

-- what every end has, each that is left has
each-from_first : (P : End → Type 0) (t : End → Bool) (es : List End) → Each P es → Each P (from_first t es)
each-from_first P t [] h = tt
each-from_first P t (e ∷ es) h = go (t e) (each-from_first P t es h.1)
  where
    go : (b : Bool) → Each P (from_first t es) → Each P (cond b (e ∷ es) (from_first t es))
    go true ih = h
    go false ih = ih

-- from a to b levels
abbrev Between : ℕ → ℕ → End → Type 0
Between a b e = (a ≤ e.levels) × (e.levels ≤ b)

-- the ends past k + d levels
ends_between : (d k s : ℕ) (qs : List ℕ) → Each (Between (k + d + 1) (k + length qs)) (drop d (ends_from k s qs))
unfolding ends_from
ends_between zero k s [] = tt
ends_between zero k s (q ∷ qs) =
    ((omega arith, omega arith), each_map (Between (k + 1 + 0 + 1) (k + 1 + length qs)) (Between (k + 0 + 1) (k + suc (length qs))) (λ e h. omega arith) (ends_from (k + 1) (s + q) qs) (ends_between zero (k + 1) (s + q) qs))
ends_between (suc d) k s [] = tt
ends_between (suc d) k s (q ∷ qs) =
    each_map (Between (k + 1 + d + 1) (k + 1 + length qs)) (Between (k + suc d + 1) (k + suc (length qs))) (λ e h. omega arith) (drop d (ends_from (k + 1) (s + q) qs)) (ends_between d (k + 1) (s + q) qs)

-- ---- the cut

-- each colour has at least reach levels
pub cut-levels : (reach : ℕ) (qs : List ℕ) → 2 * reach ≤ length qs → (reach ≤ cut reach qs) × (cut reach qs + reach ≤ length qs)
unfolding cut cut_at
cut-levels reach qs long = go (drop (reach - 1) (ends_from 0 0 (take (length qs - reach) qs))) (ends_between (reach - 1) 0 0 (take (length qs - reach) qs))
  where
    top : ℕ
    top = length (take (length qs - reach) qs)

    go : (es : List End) → Each (Between (0 + (reach - 1) + 1) (0 + top)) es → (reach ≤ cut_at reach (sum qs) es) × (cut_at reach (sum qs) es + reach ≤ length qs)
    go [] h = (omega arith, omega arith)
    go (e ∷ es) h =
        let b = best-is (Between (0 + (reach - 1) + 1) (0 + top)) (λ f. distance f.load (sum qs - f.load)) e es h.0 h.1 in
        (omega (arith, b), omega (arith, b, length-take (length qs - reach) qs))

-- ---- a pair's extent

-- the pair that ends at e
extent_of-taken : (reach b all free : ℕ) (e : End) → 1 ≤ free → 2 * reach ≤ all → 1 ≤ b → Between (2 * reach) all e → PairTakes reach all free (extent_of reach b all free e)
unfolding extent_of
extent_of-taken reach b all free e f long pos h = go (ltb (all - e.levels) (2 * reach) || leb free b) refl
  where
    go : (t : Bool) → ltb (all - e.levels) (2 * reach) || leb free b ≡ t
        → PairTakes reach all free (cond {A = Extent} t (record { levels = all; workers = free }) (record { levels = e.levels; workers = b }))
    go true q = record { long = long; some = f; rest = inl (refl, refl) }
    go false q =
        let x = ltb-false (all - e.levels) (2 * reach) (or_left_false (ltb (all - e.levels) (2 * reach)) (leb free b) q) in
        let y = leb-false free b (or_right_false (ltb (all - e.levels) (2 * reach)) (leb free b) q) in
        record { long = h.0; some = pos; rest = inr (omega arith, y) }

-- the next pair
pub extent-taken : (w R : ℕ) (policy : Policy) (free : ℕ) (qs : List ℕ) → 1 ≤ policy.reach → 1 ≤ free → 2 * policy.reach ≤ length qs
    → PairTakes policy.reach (length qs) free (extent w R policy free qs)
unfolding extent extent_from nearest
extent-taken w R policy free qs some f long =
    go (from_first (λ e. serves e.load w R policy.p) (drop (2 * policy.reach - 1) (ends_from 0 0 qs)))
    (each-from_first (Between (0 + (2 * policy.reach - 1) + 1) (0 + length qs)) (λ e. serves e.load w R policy.p) (drop (2 * policy.reach - 1) (ends_from 0 0 qs)) (ends_between (2 * policy.reach - 1) 0 0 qs))
  where
    go : (es : List End) → Each (Between (0 + (2 * policy.reach - 1) + 1) (0 + length qs)) es → PairTakes policy.reach (length qs) free (extent_from policy.reach w R (length qs) free es)
    go [] h = record { long = long; some = f; rest = inl (refl, refl) }
    go (e ∷ es) h =
        let b = best-is (Between (0 + (2 * policy.reach - 1) + 1) (0 + length qs)) (λ f. off (nearest e.load w R) f.load w R) e es h.0 h.1 in
        extent_of-taken policy.reach (nearest e.load w R) (length qs) free _ f long (omega arith) (omega (arith, b))

-- the theorem
pub pair_levels : PairLevels
pair_levels = record { pairs = extent-taken; colours = cut-levels }
