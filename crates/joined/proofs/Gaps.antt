-- Distinct numbers, some of them from s on: these leave no gap exactly where each is below s plus their count.
use mathlib.Core.Path.{◌≡◌, refl, sym, ap, ◌∙◌}
use mathlib.Core.Bool.{Bool, true, false, not}
use mathlib.Core.List.{List, [], ◌∷◌}
use Prim.Native.Nat.{ℕ, zero, suc, ◌+◌, ◌*◌, ◌≤◌, ◌<◌}
use native.Mathlib.Omega.{arith}
use lib.Dec.{ltb, leb}
use lib.ListN.{length}
use borrow.Author.Tests.{eq-eqb, ne_eqb, ltb-true, ltb-false, le-leb, lt-ltb, lt-leb, leb-true, leb-false}
use Rattle.base.specs.Lists.{filter, keep, is_in, sum_below, bit, distinct}
use Rattle.base.proofs.Counts.{count, count-filter, count-in, in_count}
use Rattle.base.proofs.Distinct.{distinct-count}
use Rattle.base.proofs.Lists.{length-split, filter_in, filter-of, filter-all, in_pos}
use Rattle.base.proofs.Sums.{sum-below-zero}
use Rattle.base.proofs.Sums.{sum-below-same, sum-below-le, sum-below_more, sum-below_equal}

-- how many of a list are below n, number by number
below-count : (n : ℕ) (xs : List ℕ) → sum_below (λ v. count v xs) n ≡ length (filter (λ x. ltb x n) xs)
below-count n [] = sum-below-zero n
below-count n (x ∷ xs) = go (ltb x n) refl (below-count n xs)
  where
    go : (b : Bool) → ltb x n ≡ b → sum_below (λ v. count v xs) n ≡ length (filter (λ y. ltb y n) xs) → sum_below (λ v. count v (x ∷ xs)) n ≡ length (keep b x (filter (λ y. ltb y n) xs))
    go true e ih =
        omega (arith, ih, sum-below_more (λ v. count v xs) (λ v. count v (x ∷ xs)) 1 n x (ltb-true x n e) (rw (eq-eqb x x refl) (omega arith)) (λ v d. rw (ne_eqb v x d) (omega arith)))
    go false e ih =
        sum-below-same (λ v. count v (x ∷ xs)) (λ v. count v xs) n (λ v l. rw (ne_eqb v x (λ q. omega (arith, ltb-false x n e))) (omega arith)) ∙ ih

-- k numbers from s on
late-count : (s k : ℕ) → sum_below (λ v. bit (leb s v)) (s + k) ≡ k
unfolding sum_below
late-count s zero =
    let e : s + 0 ≡ s = omega arith in
    rw e (sum-below-same (λ v. bit (leb s v)) (λ v. 0) s (λ v l. rw (lt-leb s v l)) ∙ sum-below-zero s)
late-count s (suc k) =
    let e : s + suc k ≡ suc (s + k) = omega arith in
    rw (e, le-leb s (s + k) (omega arith)) (omega (arith, late-count s k))

module _ (s : ℕ) (xs : List ℕ) (apart : distinct xs ≡ true) where
  abbrev late : List ℕ
  late = filter (leb s) xs

  abbrev end : ℕ
  end = s + length late

  once : (v : ℕ) → count v late ≤ bit (leb s v)
  once v = go (leb s v) (count-filter v (leb s) xs)
    where
      go : (b : Bool) → count v late ≡ bit b * count v xs → count v late ≤ bit b
      go true e = omega (arith, distinct-count xs v apart)
      go false e = omega arith

  -- all numbers up to the end are there: none is past it
  pub gapless-low : ((v : ℕ) → s ≤ v → v < end → is_in xs v ≡ true) → (v : ℕ) → is_in xs v ≡ true → v < end
  gapless-low All-there v h = go (ltb v end) refl (leb s v) refl
    where
      some : (v : ℕ) → v < end → bit (leb s v) ≤ count v late
      some v l = by (leb s v) refl
        where
          by : (b : Bool) → leb s v ≡ b → bit b ≤ count v late
          by true e = in_count v late (filter-of (leb s) xs v (All-there v (leb-true s v e) l) e)
          by false e = omega arith

      none : length (filter (λ x. not (ltb x end)) late) ≡ 0
      none = omega (arith, length-split (λ x. ltb x end) late, below-count end late, late-count s (length late), sum-below-le (λ v. bit (leb s v)) (λ v. count v late) end some)

      go : (b : Bool) → ltb v end ≡ b → (c : Bool) → leb s v ≡ c → v < end
      go true e c f = ltb-true v end e
      go false e true f = absurd (omega (arith, none, in_pos (filter (λ x. not (ltb x end)) late) v (filter-of (λ x. not (ltb x end)) late v (filter-of (leb s) xs v h f) (rw e))))
      go false e false f = omega (arith, leb-false s v f)

  -- none is past the end: all numbers up to it are there
  pub low-gapless : ((v : ℕ) → is_in xs v ≡ true → v < end) → (v : ℕ) → s ≤ v → v < end → is_in xs v ≡ true
  low-gapless low v l m =
      let kept : filter (λ x. ltb x end) late ≡ late = filter-all (λ x. ltb x end) late (λ u h. lt-ltb u end (low u (filter_in (leb s) xs u h))) in
      let equal : count v late ≡ bit (leb s v) = sum-below_equal (λ v. count v late) (λ v. bit (leb s v)) end once (below-count end late ∙ ap length kept ∙ sym (late-count s (length late))) v m in
      let one : count v late ≡ 1 = equal ∙ rw (le-leb s v l) refl in
      filter_in (leb s) xs v (count-in v late (omega arith))
