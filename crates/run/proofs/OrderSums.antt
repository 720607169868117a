-- The sum over a list that has each number once.
use mathlib.Core.Path.{◌≡◌, refl, sym, ap, ◌∙◌, subst}
use mathlib.Core.List.{List, [], ◌∷◌}
use Prim.Native.Nat.{ℕ, zero, suc, ◌+◌}
use native.Mathlib.Omega.{arith}
use lib.ListN.{length, get_or}
use lib.Dec.{eqb}
use lib.IntN.{ℤ, pos, nat_abs, ◌+ℤ◌, +ℤ_assoc, +ℤ_comm, +ℤ_idr}
use borrow.Author.Tests.{eq-eqb, ne_eqb}
use Rattle.base.specs.Lists.{range, bit, sum_below}
use Rattle.base.specs.Integers.{sumℤ}
use Rattle.base.proofs.Counts.{count}
use Rattle.base.proofs.Sums.{sum_same, sum_more, sum-zero, sum_first, pos_sum}
use Rattle.plan.proofs.Once.{Once, Low}

-- the sum of f over a list
unfoldable pub sum_list : (ℕ → ℤ) → List ℕ → ℤ
sum_list f [] = pos 0
sum_list f (x ∷ xs) = f x +ℤ sum_list f xs

-- k times z
unfoldable times : ℕ → ℤ → ℤ
times zero z = pos 0
times (suc k) z = z +ℤ times k z

one_more : (k : ℕ) → 1 + k ≡ suc k
one_more k = omega arith

none_more : (k : ℕ) → 0 + k ≡ k
none_more k = omega arith

-- a list of numbers below n, number by number
sum-counts : (f : ℕ → ℤ) (n : ℕ) (xs : List ℕ) → Low n xs → sum_list f xs ≡ sumℤ (λ v. times (count v xs) (f v)) n
unfolding sum_list times
sum-counts f n [] h = sym (sum-zero (λ v. times 0 (f v)) n (λ v. refl))
sum-counts f n (x ∷ xs) h =
    ap (λ (z : ℤ). f x +ℤ z) (sum-counts f n xs h.1) ∙ +ℤ_comm (f x) (sumℤ (λ v. times (count v xs) (f v)) n)
    ∙ sym (sum_more (λ v. times (count v xs) (f v)) (λ v. times (bit (eqb v x) + count v xs) (f v)) (f x) n x h.0
    (rw (eq-eqb x x refl) (ap (λ (k : ℕ). times k (f x)) (one_more (count x xs)) ∙ +ℤ_comm (f x) (times (count x xs) (f x))))
    (λ v d. rw (ne_eqb v x d) (ap (λ (k : ℕ). times k (f v)) (none_more (count v xs)))))

-- the sum over a list that has each number once
pub sum-once : (f : ℕ → ℤ) (n : ℕ) (xs : List ℕ) → Once n xs → sum_list f xs ≡ sumℤ f n
unfolding times
sum-once f n xs o = sum-counts f n xs o.low ∙ sum_same (λ v. times (count v xs) (f v)) f n (λ v l. rw (o.one v l) (+ℤ_idr (f v)))

-- .. the same, place by place
pub sum-places : (f : ℕ → ℤ) (xs : List ℕ) → sumℤ (λ i. f (get_or xs i 0)) (length xs) ≡ sum_list f xs
unfolding sum_list sumℤ
sum-places f [] = refl
sum-places f (x ∷ xs) = sum_first (λ i. f (get_or (x ∷ xs) i 0)) (length xs) ∙ ap (λ (z : ℤ). f x +ℤ z) (sum-places f xs)

-- the sum over an order, position by position
pub sum-order : (f : ℕ → ℤ) (n : ℕ) (xs : List ℕ) → Once n xs → sumℤ (λ i. f (get_or xs i 0)) n ≡ sumℤ f n
sum-order f n xs o = subst (λ (k : ℕ). sumℤ (λ i. f (get_or xs i 0)) k ≡ sumℤ f n) o.long (sum-places f xs ∙ sum-once f n xs o)

-- .. of natural numbers
pub sum-below-order : (f : ℕ → ℕ) (n : ℕ) (xs : List ℕ) → Once n xs → sum_below (λ i. f (get_or xs i 0)) n ≡ sum_below f n
sum-below-order f n xs o = ap nat_abs (sym (pos_sum (λ i. f (get_or xs i 0)) n) ∙ sum-order (λ v. pos (f v)) n xs o ∙ pos_sum f n)

-- s numbers, and m more
pub sum_on : (f : ℕ → ℤ) (s m : ℕ) → sumℤ f (s + m) ≡ sumℤ f s +ℤ sum_list f (range s m)
unfolding sum_list sumℤ
sum_on f s zero = (let e : s + 0 ≡ s = omega arith in ap (sumℤ f) e) ∙ sym (+ℤ_idr (sumℤ f s))
sum_on f s (suc m) = (let e : s + suc m ≡ suc s + m = omega arith in ap (sumℤ f) e) ∙ sum_on f (suc s) m ∙ +ℤ_assoc (sumℤ f s) (f s) (sum_list f (range (suc s) m))
