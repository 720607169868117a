-- Laws of sums over f 0 .. f (n - 1), of natural numbers and of integers.
use mathlib.Core.Path.{◌≡◌, refl, sym, ap, ◌∙◌, subst}
use mathlib.Core.Logic.{◌⊎◌, inl, inr, ◌≢◌}
use mathlib.Core.Bool.{Bool, true, false, cond}
use Prim.Native.Nat.{ℕ, zero, suc, ◌+◌, ◌*◌, ◌-◌, ◌≤◌, ◌<◌}
use native.Mathlib.Nat.{mul-zero, mul-add}
use native.Mathlib.Omega.{arith}
use lib.Dec.{ltb}
use lib.IntN.{ℤ, pos, nat_abs, ◌+ℤ◌, +ℤ_assoc, +ℤ_comm, +ℤ_idl, +ℤ_idr}
use borrow.Author.Tests.{lt-ltb, le-ltb, ltb-true, ltb-false}
use Rattle.base.specs.Lists.{sum_below}
use Rattle.base.specs.Integers.{sumℤ}
use Rattle.base.proofs.Booleans.{same_or}
use Rattle.base.proofs.Integers.{abs-add, add_cross}

-- ---- integers

pub sum_same : (f g : ℕ → ℤ) (k : ℕ) → ((v : ℕ) → v < k → f v ≡ g v) → sumℤ f k ≡ sumℤ g k
unfolding sumℤ
sum_same f g zero h = refl
sum_same f g (suc k) h = rw (sum_same f g k (λ v l. h v (omega arith)), h k (omega arith))

-- one term more by a
pub sum_more : (f g : ℕ → ℤ) (a : ℤ) (k w : ℕ) → w < k → g w ≡ f w +ℤ a → ((v : ℕ) → v ≢ w → g v ≡ f v) → sumℤ g k ≡ sumℤ f k +ℤ a
unfolding sumℤ
sum_more f g a zero w l e h = absurd (omega arith)
sum_more f g a (suc k) w l e h = go (same_or k w) (λ m. sum_more f g a k w m e h)
  where
    go : (k ≡ w) ⊎ (k ≢ w) → (w < k → sumℤ g k ≡ sumℤ f k +ℤ a) → sumℤ g k +ℤ g k ≡ (sumℤ f k +ℤ f k) +ℤ a
    go (inl q) ih =
        let r : sumℤ g k ≡ sumℤ f k = sum_same g f k (λ v m. h v (λ z. omega arith)) in
        ap (λ (z : ℤ). z +ℤ g k) r ∙ ap (λ (z : ℤ). sumℤ f k +ℤ z) (subst (λ (y : ℕ). g y ≡ f y +ℤ a) (sym q) e) ∙ sym (+ℤ_assoc (sumℤ f k) (f k) a)
    go (inr q) ih =
        ap (λ (z : ℤ). z +ℤ g k) (ih (omega arith)) ∙ ap (λ (z : ℤ). (sumℤ f k +ℤ a) +ℤ z) (h k q)
        ∙ +ℤ_assoc (sumℤ f k) a (f k) ∙ ap (λ (z : ℤ). sumℤ f k +ℤ z) (+ℤ_comm a (f k)) ∙ sym (+ℤ_assoc (sumℤ f k) (f k) a)

pub sum-zero : (f : ℕ → ℤ) (k : ℕ) → ((v : ℕ) → f v ≡ pos 0) → sumℤ f k ≡ pos 0
unfolding sumℤ
sum-zero f zero h = refl
sum-zero f (suc k) h = rw (sum-zero f k h, h k) refl

pub sum_first : (f : ℕ → ℤ) (n : ℕ) → sumℤ f (suc n) ≡ f 0 +ℤ sumℤ (λ i. f (suc i)) n
unfolding sumℤ
sum_first f zero = +ℤ_comm (pos 0) (f 0)
sum_first f (suc n) = ap (λ (z : ℤ). z +ℤ f (suc n)) (sum_first f n) ∙ +ℤ_assoc (f 0) (sumℤ (λ i. f (suc i)) n) (f (suc n))

pub sum-add : (f g : ℕ → ℤ) (n : ℕ) → sumℤ (λ i. f i +ℤ g i) n ≡ sumℤ f n +ℤ sumℤ g n
unfolding sumℤ
sum-add f g zero = refl
sum-add f g (suc n) = rw (sum-add f g n) (add_cross (sumℤ f n) (sumℤ g n) (f n) (g n))

-- terms from k on that are 0
pub sum-short : (f : ℕ → ℤ) (k m : ℕ) → k ≤ m → ((v : ℕ) → k ≤ v → f v ≡ pos 0) → sumℤ f m ≡ sumℤ f k
unfolding sumℤ
sum-short f k m l h = let e : k + (m - k) ≡ m = omega arith in subst (λ (y : ℕ). sumℤ f y ≡ sumℤ f k) e (go (m - k))
  where
    go : (j : ℕ) → sumℤ f (k + j) ≡ sumℤ f k
    go zero = let e : k + 0 ≡ k = omega arith in rw e
    go (suc j) = let e : k + suc j ≡ suc (k + j) = omega arith in rw (e, h (k + j) (omega arith), go j) (+ℤ_idr (sumℤ f k))

-- m terms that stand at different numbers below n, each at its own: the sum over these numbers
pub sum_moved : (f : ℕ → ℤ) (at from : ℕ → ℕ) (n m : ℕ) → ((l : ℕ) → l < m → at l < n) → ((l : ℕ) → l < m → from (at l) ≡ l) → ((v : ℕ) → from v < m → at (from v) ≡ v)
    → sumℤ (λ l. f (at l)) m ≡ sumℤ (λ v. cond (ltb (from v) m) (f v) (pos 0)) n
unfolding sumℤ
sum_moved f at from n zero low back forth = sym (sum-zero (λ v. cond (ltb (from v) 0) (f v) (pos 0)) n (λ v. rw (le-ltb (from v) 0 (omega arith))))
sum_moved f at from n (suc m) low back forth =
    ap (λ (z : ℤ). z +ℤ f (at m)) (sum_moved f at from n m (λ l h. low l (omega arith)) (λ l h. back l (omega arith)) (λ v h. forth v (omega arith)))
    ∙ sym (sum_more (λ v. cond (ltb (from v) m) (f v) (pos 0)) (λ v. cond (ltb (from v) (suc m)) (f v) (pos 0)) (f (at m)) n (at m) (low m (omega arith)) own other)
  where
    own : cond (ltb (from (at m)) (suc m)) (f (at m)) (pos 0) ≡ cond (ltb (from (at m)) m) (f (at m)) (pos 0) +ℤ f (at m)
    own = let e = back m (omega arith) in rw (lt-ltb (from (at m)) (suc m) (omega arith), le-ltb (from (at m)) m (omega arith)) (sym (+ℤ_idl (f (at m))))

    other : (v : ℕ) → v ≢ at m → cond (ltb (from v) (suc m)) (f v) (pos 0) ≡ cond (ltb (from v) m) (f v) (pos 0)
    other v d = go (ltb (from v) m) refl
      where
        differs : from v ≢ m
        differs q = d (sym (forth v (omega arith)) ∙ ap at q)

        go : (b : Bool) → ltb (from v) m ≡ b → cond (ltb (from v) (suc m)) (f v) (pos 0) ≡ cond b (f v) (pos 0)
        go true e = rw (lt-ltb (from v) (suc m) (omega (arith, ltb-true (from v) m e)))
        go false e = rw (le-ltb (from v) (suc m) (let w : from v ≢ m = differs in omega (arith, ltb-false (from v) m e)))

-- ---- natural numbers

pub sum-below-zero : (n : ℕ) → sum_below (λ (i : ℕ). 0) n ≡ 0
unfolding sum_below
sum-below-zero zero = refl
sum-below-zero (suc n) = omega (arith, sum-below-zero n)

pub sum-below-first : (f : ℕ → ℕ) (n : ℕ) → sum_below f (suc n) ≡ f 0 + sum_below (λ i. f (suc i)) n
unfolding sum_below
sum-below-first f zero = omega arith
sum-below-first f (suc n) = omega (arith, sum-below-first f n)

pub sum-below-same : (f g : ℕ → ℕ) (n : ℕ) → ((i : ℕ) → i < n → f i ≡ g i) → sum_below f n ≡ sum_below g n
unfolding sum_below
sum-below-same f g zero h = refl
sum-below-same f g (suc n) h = omega (arith, sum-below-same f g n (λ i l. h i (omega arith)), h n (omega arith))

pub sum-below-le : (f g : ℕ → ℕ) (n : ℕ) → ((i : ℕ) → i < n → f i ≤ g i) → sum_below f n ≤ sum_below g n
unfolding sum_below
sum-below-le f g zero h = omega arith
sum-below-le f g (suc n) h = omega (arith, sum-below-le f g n (λ i l. h i (omega arith)), h n (omega arith))

pub sum-below_bound : (f : ℕ → ℕ) (n m : ℕ) → ((i : ℕ) → i < n → f i ≤ m) → sum_below f n ≤ n * m
unfolding sum_below
sum-below_bound f zero m h = omega arith
sum-below_bound f (suc n) m h = omega (arith, sum-below_bound f n m (λ i l. h i (omega arith)), h n (omega arith))

pub sum-below_more : (f g : ℕ → ℕ) (a k w : ℕ) → w < k → g w ≡ f w + a → ((v : ℕ) → v ≢ w → g v ≡ f v) → sum_below g k ≡ sum_below f k + a
unfolding sum_below
sum-below_more f g a zero w l e h = absurd (omega arith)
sum-below_more f g a (suc k) w l e h = go (same_or k w) (λ m. sum-below_more f g a k w m e h)
  where
    go : (k ≡ w) ⊎ (k ≢ w) → (w < k → sum_below g k ≡ sum_below f k + a) → sum_below g k + g k ≡ sum_below f k + f k + a
    go (inl q) ih =
        let r : sum_below g k ≡ sum_below f k = sum-below-same g f k (λ v m. h v (λ z. omega arith)) in
        let s : g k ≡ f k + a = subst (λ (y : ℕ). g y ≡ f y + a) (sym q) e in
        omega arith
    go (inr q) ih = omega (arith, ih (omega arith), h k q)

pub sum-below-add : (f g : ℕ → ℕ) (n : ℕ) → sum_below (λ i. f i + g i) n ≡ sum_below f n + sum_below g n
unfolding sum_below
sum-below-add f g zero = refl
sum-below-add f g (suc n) = omega (arith, sum-below-add f g n)

pub sum-below_twice : (f : ℕ → ℕ) (n : ℕ) → sum_below (λ i. 2 * f i) n ≡ 2 * sum_below f n
unfolding sum_below
sum-below_twice f zero = refl
sum-below_twice f (suc n) = omega (arith, sum-below_twice f n)

pub sum-below-times : (t : ℕ) (f : ℕ → ℕ) (n : ℕ) → sum_below (λ i. t * f i) n ≡ t * sum_below f n
unfolding sum_below
sum-below-times t f zero = sym (mul-zero t)
sum-below-times t f (suc n) = rw (sum-below-times t f n) (sym (mul-add t (sum_below f n) (f n)))

pub sum-below_ones : (f : ℕ → ℕ) (n : ℕ) → sum_below (λ i. 1 + 2 * f i) n ≡ n + 2 * sum_below f n
unfolding sum_below
sum-below_ones f zero = refl
sum-below_ones f (suc n) = omega (arith, sum-below_ones f n)

-- equal sums of numbers below others
pub sum-below_equal : (f g : ℕ → ℕ) (n : ℕ) → ((i : ℕ) → f i ≤ g i) → sum_below f n ≡ sum_below g n → (i : ℕ) → i < n → f i ≡ g i
unfolding sum_below
sum-below_equal f g zero h e i l = absurd (omega arith)
sum-below_equal f g (suc n) h e i l = go (same_or i n) (λ m. sum-below_equal f g n h (omega (arith, sum-below-le f g n (λ i l. h i), h n)) i m)
  where
    go : (i ≡ n) ⊎ (i ≢ n) → (i < n → f i ≡ g i) → f i ≡ g i
    go (inl q) ih = subst (λ (y : ℕ). f y ≡ g y) (sym q) (omega (arith, sum-below-le f g n (λ i l. h i), h n))
    go (inr q) ih = ih (omega arith)

pub pos_sum : (f : ℕ → ℕ) (n : ℕ) → sumℤ (λ i. pos (f i)) n ≡ pos (sum_below f n)
unfolding sumℤ sum_below
pos_sum f zero = refl
pos_sum f (suc n) = rw (pos_sum f n) refl

pub abs-sum : (f : ℕ → ℤ) (n : ℕ) → nat_abs (sumℤ f n) ≤ sum_below (λ i. nat_abs (f i)) n
unfolding sumℤ sum_below
abs-sum f zero = omega arith
abs-sum f (suc n) = omega (arith, abs-add (sumℤ f n) (f n), abs-sum f n)

-- more terms, no less
pub sum-below-up : (f : ℕ → ℕ) (k m : ℕ) → k ≤ m → sum_below f k ≤ sum_below f m
unfolding sum_below
sum-below-up f k m l = let e : k + (m - k) ≡ m = omega arith in subst (λ (y : ℕ). sum_below f k ≤ sum_below f y) e (go (m - k))
  where
    go : (j : ℕ) → sum_below f k ≤ sum_below f (k + j)
    go zero = let e : k + 0 ≡ k = omega arith in rw e (omega arith)
    go (suc j) = let e : k + suc j ≡ suc (k + j) = omega arith in rw e (omega (arith, go j))

-- a table that is the same both ways: at most twice its part on and below the diagonal
pub sum-below-table : (G : ℕ → ℕ → ℕ) (n : ℕ) → ((p q : ℕ) → G p q ≡ G q p) → sum_below (λ p. sum_below (G p) n) n ≤ 2 * sum_below (λ p. sum_below (G p) (suc p)) n
unfolding sum_below
sum-below-table G zero s = omega arith
sum-below-table G (suc n) s =
    omega (arith, sum-below-add (λ p. sum_below (G p) n) (λ p. G p n) n, sum-below-table G n s, sum-below-same (λ p. G p n) (G n) n (λ p l. s p n))
