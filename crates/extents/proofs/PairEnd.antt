-- Where a pair ends and where it is cut, from what the scans find.
use mathlib.Core.Path.{◌≡◌, refl, ap, ◌∙◌}
use mathlib.Core.Bool.{Bool, true, false, ◌||◌, cond}
use mathlib.Core.List.{List, [], ◌∷◌}
use Prim.Native.Nat.{ℕ, ◌+◌, ◌*◌, ◌-◌, ◌≤◌, ◌<◌}
use native.Mathlib.Omega.{arith}
use lib.Dec.{ltb, leb}
use lib.ListN.{length, take, drop, drop_of_length-le}
use lib.Seq.{length-take-le}
use borrow.Author.Tests.{lt-ltb, le-ltb, le-leb, lt-leb}
use Rattle.base.specs.Lists.{best, sum, distance, from_first}
use Rattle.extents.specs.Extents.{Policy, End, ends_from, nearest, off, serves, extent, extent_from, extent_of, cut, cut_at}
use Rattle.extents.specs.Code.Scans.{ends_on, nearest_end}
use Rattle.extents.proofs.Ends.{end_at, sum-split, ends-after, ends_on_lem}

-- no end has more levels than there are
ends-none : (k : ℕ) (qs : List ℕ) → length qs < k → ends_on k qs ≡ []
unfolding ends_from
ends-none k qs l = rw (ends-after (k - 1) qs, drop_of_length-le qs {i = k - 1} (omega arith))

-- ---- a pair's extent

module _ (w R : ℕ) (policy : Policy) (free : ℕ) (qs : List ℕ) (k : ℕ)
    (first : from_first (λ e. serves e.load w R policy.p) (ends_on (2 * policy.reach) qs) ≡ ends_on k qs) where
  -- the pair takes l levels and v workers
  abbrev Takes : (l v : ℕ) → Type 0
  Takes l v = (l ≡ (extent w R policy free qs).levels) × (v ≡ (extent w R policy free qs).workers)

  pub extent-none : length qs < k → Takes (length qs) free
  unfolding extent extent_from
  extent-none l = rw (first, ends-none k qs l) (refl, refl)

  module _ (b r : ℕ) (some : 1 ≤ k) (most : k ≤ length qs) (b-is : b ≡ nearest (sum (take k qs)) w R) (r-is : r ≡ nearest_end w (b * R) (ends_on k qs)) where
    extent-is : (short full : Bool) → ltb (length qs - r) (2 * policy.reach) ≡ short → leb free b ≡ full
        → extent w R policy free qs ≡ cond (short || full) (record { levels = length qs; workers = free }) (record { levels = r; workers = b })
    unfolding extent extent_from extent_of nearest_end off
    extent-is short full e f =
        let on : ends_on k qs ≡ end_at k qs ∷ ends_from k (sum (take k qs)) (drop k qs) = ends_on_lem k qs (omega arith) most in
        rw (first, on, ← b-is, ← rw on at r-is, e, f)

    pub extent-short : length qs - r < 2 * policy.reach → Takes (length qs) free
    extent-short l = rw (extent-is true (leb free b) (lt-ltb (length qs - r) (2 * policy.reach) l) refl) (refl, refl)

    pub extent-full : 2 * policy.reach ≤ length qs - r → free ≤ b → Takes (length qs) free
    extent-full l m = rw (extent-is false true (le-ltb (length qs - r) (2 * policy.reach) l) (le-leb free b m)) (refl, refl)

    pub extent-part : 2 * policy.reach ≤ length qs - r → b < free → Takes r b
    extent-part l m = rw (extent-is false false (le-ltb (length qs - r) (2 * policy.reach) l) (lt-leb free b m)) (refl, refl)

-- ---- a pair's cut

-- scores that agree on every load find the same end
best-same : (f g : End → ℕ) (e : End) (i q : ℕ) (qs : List ℕ) → f e ≡ g e
    → ((j r : ℕ) → r ≤ q + sum qs → f (record { levels = j; load = r }) ≡ g (record { levels = j; load = r }))
    → best f e (ends_from i q qs) ≡ best g e (ends_from i q qs)
unfolding ends_from best
best-same f g e i q [] h agree = refl
best-same f g e i q (x ∷ qs) h agree = go (ltb (g next) (g e)) refl (λ d a. best-same f g d (i + 1) (q + x) qs a (λ j r l. agree j r (omega arith)))
  where
    next : End
    next = record { levels = i + 1; load = q + x }

    same : f next ≡ g next
    same = agree (i + 1) (q + x) (omega arith)

    go : (b : Bool) → ltb (g next) (g e) ≡ b
        → ((d : End) → f d ≡ g d → best f d (ends_from (i + 1) (q + x) qs) ≡ best g d (ends_from (i + 1) (q + x) qs))
        → best f (cond (ltb (f next) (f e)) next e) (ends_from (i + 1) (q + x) qs) ≡ best g (cond (ltb (g next) (g e)) next e) (ends_from (i + 1) (q + x) qs)
    go true t ih = rw (same, h, t) (ih next same)
    go false t ih = rw (same, h, t) (ih e h)

-- the loads of the two colours differ least where twice the red load is nearest to the whole
pub cut-is : (reach : ℕ) (qs : List ℕ) (r : ℕ) → 1 ≤ reach → 2 * reach ≤ length qs → r ≡ nearest_end 2 (sum qs) (ends_on reach (take (length qs - reach) qs)) → r ≡ cut reach qs
unfolding cut cut_at nearest_end
cut-is reach qs r s l r-is =
    let front = take (length qs - reach) qs in
    let long : length front ≡ length qs - reach = length-take-le (length qs - reach) qs (omega arith) in
    let on : ends_on reach front ≡ end_at reach front ∷ ends_from reach (sum (take reach front)) (drop reach front) = ends_on_lem reach front (omega arith) (omega arith) in
    rw on (rw on at r-is ∙ ap (λ (e : End). e.levels)
    (best-same (λ f. distance (f.load * 2) (sum qs)) (λ f. distance f.load (sum qs - f.load)) (end_at reach front) reach (sum (take reach front)) (drop reach front)
    (omega (arith, sum-split reach front, sum-split (length qs - reach) qs))
    (λ j r m. omega (arith, sum-split reach front, sum-split (length qs - reach) qs))))
