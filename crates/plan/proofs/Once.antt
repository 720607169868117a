-- What it says that an order has each row once: its length, who stands in it and how often, and that no two places hold
-- the same row.
use mathlib.Core.Path.{◌≡◌, refl, sym, ◌∙◌, subst}
use mathlib.Core.Logic.{◌⊎◌, inl, inr, ◌≢◌}
use mathlib.Core.Bool.{Bool, true, false}
use mathlib.Core.List.{List, [], ◌∷◌}
use Prim.Native.Nat.{ℕ, zero, suc, ◌+◌, ◌≤◌, ◌<◌}
use native.Mathlib.Omega.{arith}
use lib.Dec.{eqb, ltb}
use lib.ListN.{length, get_or}
use borrow.Author.Tests.{eqb-true, eq-eqb, ne_eqb, ltb-true, ltb-false}
use Rattle.base.specs.Lists.{all, is_in, range, sum_below, bit}
use Rattle.base.proofs.Booleans.{and_left, and_right, same_or}
use Rattle.base.proofs.Lists.{all-range, of-all, length-range}
use Rattle.base.proofs.Counts.{count, Same, count-in, in_count, same_length}
use Rattle.base.proofs.Sums.{sum-below-same, sum-below_more}
use Rattle.plan.specs.Sound.{each_once}

-- every number of the list is below n
abbrev pub Low : ℕ → List ℕ → Type 0
Low n [] = Unit {0}
Low n (x ∷ xs) = (x < n) × Low n xs

-- how many of the list are below n, number by number
abbrev total : ℕ → List ℕ → ℕ
total n xs = sum_below (λ v. count v xs) n

total-nil : (n : ℕ) → total n [] ≡ 0
unfolding sum_below
total-nil zero = refl
total-nil (suc n) = omega (arith, total-nil n)

total-cons : (n x : ℕ) (xs : List ℕ) (b : Bool) → ltb x n ≡ b → total n (x ∷ xs) ≡ bit b + total n xs
total-cons n x xs true e =
    omega (
      arith,
      sum-below_more (λ v. count v xs) (λ v. bit (eqb v x) + count v xs) 1 n x (ltb-true x n e)
          (rw (eq-eqb x x refl) (omega arith)) (λ v d. rw (ne_eqb v x d) (omega arith)),
    )
total-cons n x xs false e =
    omega (
      arith,
      sum-below-same (λ v. bit (eqb v x) + count v xs) (λ v. count v xs) n
          (λ v l. rw (ne_eqb v x (λ q. omega (arith, ltb-false x n e))) (omega arith)),
    )

total-le : (n : ℕ) (xs : List ℕ) → total n xs ≤ length xs
total-le n [] = omega (arith, total-nil n)
total-le n (x ∷ xs) = go (ltb x n) (total-cons n x xs (ltb x n) refl) (total-le n xs)
  where
    go : (b : Bool) → total n (x ∷ xs) ≡ bit b + total n xs → total n xs ≤ length xs → total n (x ∷ xs) ≤ suc (length xs)
    go true e l = omega arith
    go false e l = omega arith

total-low : (n : ℕ) (xs : List ℕ) → length xs ≤ total n xs → Low n xs
total-low n [] h = tt
total-low n (x ∷ xs) h = go (ltb x n) refl (total-cons n x xs (ltb x n) refl) (total-low n xs)
  where
    go : (b : Bool) → ltb x n ≡ b → total n (x ∷ xs) ≡ bit b + total n xs → (length xs ≤ total n xs → Low n xs) → (x < n) × Low n xs
    go true e f ih = (ltb-true x n e, ih (omega arith))
    go false e f ih = absurd (omega (arith, total-le n xs))

total_ge : (n : ℕ) (xs : List ℕ) → ((v : ℕ) → v < n → 1 ≤ count v xs) → n ≤ total n xs
unfolding sum_below
total_ge zero xs h = omega arith
total_ge (suc n) xs h = omega (arith, total_ge n xs (λ v l. h v (omega arith)), h n (omega arith))

-- all stand there, and one of them as often as it does
total-one : (n v : ℕ) (xs : List ℕ) → ((v : ℕ) → v < n → 1 ≤ count v xs) → v < n → n + count v xs ≤ total n xs + 1
unfolding sum_below
total-one zero v xs h l = absurd (omega arith)
total-one (suc n) v xs h l = go (same_or v n) (λ k. total-one n v xs (λ u m. h u (omega arith)) k)
  where
    go : (v ≡ n) ⊎ (v ≢ n) → (v < n → n + count v xs ≤ total n xs + 1) → suc n + count v xs ≤ total n xs + count n xs + 1
    go (inl e) ih = subst (λ (y : ℕ). suc n + count y xs ≤ total n xs + count n xs + 1) (sym e) (omega (arith, total_ge n xs (λ u m. h u (omega arith))))
    go (inr d) ih = omega (arith, ih (omega arith), h n (omega arith))

-- what `each_once` says of a list
pub record Once (n : ℕ) (xs : List ℕ) : Type 0 where
  pub long : length xs ≡ n
  pub member : (v : ℕ) → v < n → is_in xs v ≡ true
  pub one : (v : ℕ) → v < n → count v xs ≡ 1
  pub low : Low n xs

-- the test gives all of this
pub once : (n : ℕ) (xs : List ℕ) → each_once n xs ≡ true → Once n xs
unfolding each_once
once n xs h = record {
  long = long;
  member = member;
  one = λ v l. omega (arith, long, some v l, total-one n v xs some l, total-le n xs);
  low = total-low n xs (omega (arith, long, total_ge n xs some));
}
  where
    long : length xs ≡ n
    long = eqb-true (length xs) n (and_left (eqb (length xs) n) (all (is_in xs) (range 0 n)) h)

    member : (v : ℕ) → v < n → is_in xs v ≡ true
    member v l = all-range (is_in xs) n v (and_right (eqb (length xs) n) (all (is_in xs) (range 0 n)) h) l

    some : (v : ℕ) → v < n → 1 ≤ count v xs
    some v l = in_count v xs (member v l)

-- the row at a place
pub low_at : (n : ℕ) (xs : List ℕ) (i : ℕ) → Low n xs → i < length xs → get_or xs i 0 < n
low_at n [] i h l = absurd (omega arith)
low_at n (x ∷ xs) zero h l = h.0
low_at n (x ∷ xs) (suc i) h l = low_at n xs i h.1 (omega arith)

-- ---- no number stands twice

count_at : (xs : List ℕ) (i : ℕ) → i < length xs → 1 ≤ count (get_or xs i 0) xs
count_at [] i l = absurd (omega arith)
count_at (x ∷ xs) zero l = rw (eq-eqb x x refl) (omega arith)
count_at (x ∷ xs) (suc i) l = omega (arith, count_at xs i (omega arith))

-- a number at two places stands twice
pub count-two : (xs : List ℕ) (i k : ℕ) → i < k → k < length xs → get_or xs i 0 ≡ get_or xs k 0 → 2 ≤ count (get_or xs k 0) xs
count-two [] i k a b e = absurd (omega arith)
count-two (x ∷ xs) i zero a b e = absurd (omega arith)
count-two (x ∷ xs) zero (suc k) a b e = rw (eq-eqb (get_or xs k 0) x (sym e)) (omega (arith, count_at xs k (omega arith)))
count-two (x ∷ xs) (suc i) (suc k) a b e = omega (arith, count-two xs i k (omega arith) (omega arith) e)

-- different places hold different rows
pub injective : (n : ℕ) (xs : List ℕ) → Once n xs → (i k : ℕ) → i < n → k < n → i ≢ k → get_or xs i 0 ≢ get_or xs k 0
injective n xs o i k a b d e = go (ltb i k) refl
  where
    twice : (i k : ℕ) → i < k → k < n → get_or xs i 0 ≡ get_or xs k 0 → ⊥
    twice i k a b e = omega (arith, count-two xs i k a (omega (arith, o.long)) e, o.one (get_or xs k 0) (low_at n xs k o.low (omega (arith, o.long))))

    go : (t : Bool) → ltb i k ≡ t → ⊥
    go true f = twice i k (ltb-true i k f) b e
    go false f = twice k i (omega (arith, ltb-false i k f)) a (sym e)

-- a list that holds what 0 .. n - 1 holds has each once
pub same_once : (n : ℕ) (xs : List ℕ) → Same xs (range 0 n) → each_once n xs ≡ true
unfolding each_once
same_once n xs s =
    rw (
      eq-eqb (length xs) n (same_length xs (range 0 n) s ∙ length-range 0 n),
      of-all (is_in xs) (range 0 n) (λ v h. count-in v xs (omega (arith, s v, in_count v (range 0 n) h))),
    ) refl
