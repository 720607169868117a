-- How often a number stands in a list: what it is for two lists to hold the same.
use mathlib.Core.Path.{◌≡◌, refl, sym, ap, ◌∙◌, subst}
use mathlib.Core.Bool.{Bool, true, false, not, ◌||◌, cond, true≢false}
use mathlib.Core.List.{List, [], ◌∷◌, ◌++◌}
use Prim.Native.Nat.{ℕ, zero, suc, ◌+◌, ◌*◌, ◌≤◌, ◌<◌}
use native.Mathlib.Omega.{arith}
use lib.Dec.{eqb}
use lib.ListN.{length}
use borrow.Author.Tests.{eqb-true, eq-eqb, ne_eqb}
use Rattle.base.specs.Lists.{filter, keep, is_in, range, bit}
pub use Rattle.base.specs.Code.Counts.{count}
use Rattle.base.proofs.Lists.{is_in-range, length-filter-le, length-range}

-- the same numbers, as often
abbrev pub Same : List ℕ → List ℕ → Type 0
Same xs ys = (v : ℕ) → count v xs ≡ count v ys

pub count-append : (v : ℕ) (xs ys : List ℕ) → count v (xs ++ ys) ≡ count v xs + count v ys
count-append v [] ys = omega arith
count-append v (x ∷ xs) ys = omega (arith, count-append v xs ys)

pub count-filter : (v : ℕ) (p : ℕ → Bool) (xs : List ℕ) → count v (filter p xs) ≡ bit (p v) * count v xs
count-filter v p [] = omega arith
count-filter v p (x ∷ xs) = go (p x) (eqb v x) refl refl (count-filter v p xs)
  where
    go : (b c : Bool) → p x ≡ b → eqb v x ≡ c → count v (filter p xs) ≡ bit (p v) * count v xs → count v (keep b x (filter p xs)) ≡ bit (p v) * (bit c + count v xs)
    go true true e f ih =
        let pv : p v ≡ true = subst (λ (y : ℕ). p y ≡ true) (sym (eqb-true v x f)) e in
        rw f (rw pv (omega (arith, rw pv at ih)))
    go true false e f ih = rw f (omega arith)
    go false true e f ih =
        let pv : p v ≡ false = subst (λ (y : ℕ). p y ≡ false) (sym (eqb-true v x f)) e in
        rw pv (omega (arith, rw pv at ih))
    go false false e f ih = omega arith

pub count-split : (v : ℕ) (p : ℕ → Bool) (xs : List ℕ) → count v (filter p xs) + count v (filter (λ u. not (p u)) xs) ≡ count v xs
count-split v p xs = go (p v) (count-filter v p xs) (count-filter v (λ u. not (p u)) xs)
  where
    go : (b : Bool) → count v (filter p xs) ≡ bit b * count v xs → count v (filter (λ u. not (p u)) xs) ≡ bit (not b) * count v xs
        → count v (filter p xs) + count v (filter (λ u. not (p u)) xs) ≡ count v xs
    go true a b = omega arith
    go false a b = omega arith

pub count-in : (v : ℕ) (xs : List ℕ) → 1 ≤ count v xs → is_in xs v ≡ true
count-in v [] h = absurd (omega arith)
count-in v (x ∷ xs) h = go (eqb v x) refl (count-in v xs)
  where
    go : (b : Bool) → eqb v x ≡ b → (1 ≤ count v xs → is_in xs v ≡ true) → eqb v x || is_in xs v ≡ true
    go true e ih = rw e refl
    go false e ih = let q : 1 ≤ bit false + count v xs = rw e at h in rw e (ih (omega arith))

pub in_count : (v : ℕ) (xs : List ℕ) → is_in xs v ≡ true → 1 ≤ count v xs
in_count v [] h = absurd (true≢false (sym h))
in_count v (x ∷ xs) h = go (eqb v x) refl (in_count v xs)
  where
    go : (b : Bool) → eqb v x ≡ b → (is_in xs v ≡ true → 1 ≤ count v xs) → 1 ≤ bit (eqb v x) + count v xs
    go true e ih = rw e (omega arith)
    go false e ih = rw e (omega (arith, ih (rw e at h)))

pub out_count : (v : ℕ) (xs : List ℕ) → is_in xs v ≡ false → count v xs ≡ 0
out_count v xs h = go (count v xs) refl
  where
    go : (m : ℕ) → count v xs ≡ m → count v xs ≡ 0
    go zero e = e
    go (suc m) e = absurd (true≢false (sym (count-in v xs (omega arith)) ∙ h))

-- in 0 .. n each number stands once
pub count-range : (v k n : ℕ) → count v (range k n) ≤ 1
count-range v k n = go' n k
  where
    low : (n k : ℕ) → v < k → count v (range k n) ≡ 0
    low zero k h = refl
    low (suc n) k h = rw (ne_eqb v k (λ q. omega arith)) (omega (arith, low n (suc k) (omega arith)))

    go' : (n k : ℕ) → count v (range k n) ≤ 1
    go' zero k = omega arith
    go' (suc n) k = at (eqb v k) refl (go' n (suc k))
      where
        at : (b : Bool) → eqb v k ≡ b → count v (range (suc k) n) ≤ 1 → bit (eqb v k) + count v (range (suc k) n) ≤ 1
        at true e ih = let q : v ≡ k = eqb-true v k e in rw e (omega (arith, low n (suc k) (omega arith)))
        at false e ih = rw e (omega arith)

remove : ℕ → List ℕ → List ℕ
remove v [] = []
remove v (x ∷ xs) = cond (eqb v x) xs (x ∷ remove v xs)

remove_length : (v : ℕ) (xs : List ℕ) → 1 ≤ count v xs → suc (length (remove v xs)) ≡ length xs
unfolding remove
remove_length v [] h = absurd (omega arith)
remove_length v (x ∷ xs) h = go (eqb v x) refl (remove_length v xs)
  where
    go : (b : Bool) → eqb v x ≡ b → (1 ≤ count v xs → suc (length (remove v xs)) ≡ length xs) → suc (length (cond b xs (x ∷ remove v xs))) ≡ suc (length xs)
    go true e ih = refl
    go false e ih = let q : 1 ≤ bit false + count v xs = rw e at h in ap suc (ih (omega arith))

remove_count : (v u : ℕ) (xs : List ℕ) → 1 ≤ count v xs → count u (remove v xs) + bit (eqb u v) ≡ count u xs
unfolding remove
remove_count v u [] h = absurd (omega arith)
remove_count v u (x ∷ xs) h = go (eqb v x) refl (remove_count v u xs)
  where
    go : (b : Bool) → eqb v x ≡ b → (1 ≤ count v xs → count u (remove v xs) + bit (eqb u v) ≡ count u xs)
        → count u (cond b xs (x ∷ remove v xs)) + bit (eqb u v) ≡ bit (eqb u x) + count u xs
    go true e ih = rw (eqb-true v x e) (omega arith)
    go false e ih = let q : 1 ≤ bit false + count v xs = rw e at h in omega (arith, ih (omega arith))

pub same_length : (xs ys : List ℕ) → Same xs ys → length xs ≡ length ys
same_length [] [] s = refl
same_length [] (y ∷ ys) s = absurd (bad (s y) (eq-eqb y y refl))
  where
    bad : 0 ≡ bit (eqb y y) + count y ys → eqb y y ≡ true → ⊥
    bad e f = let q : 0 ≡ bit true + count y ys = rw f at e in omega arith
same_length (x ∷ xs) ys s =
    let me : eqb x x ≡ true = eq-eqb x x refl in
    let q : bit true + count x xs ≡ count x ys = rw me at (s x) in
    let one : 1 ≤ count x ys = omega arith in
    ap suc (same_length xs (remove x ys) (λ u. omega (arith, s u, remove_count x u ys one))) ∙ remove_length x ys one

-- numbers below n, each once: the same in ascending order, and at most n
module _ (n : ℕ) (xs : List ℕ) (below : (v : ℕ) → is_in xs v ≡ true → v < n) (once : (v : ℕ) → count v xs ≤ 1) where
  pub once-length : length (filter (is_in xs) (range 0 n)) ≡ length xs
  once-length = same_length (filter (is_in xs) (range 0 n)) xs (λ v. count-filter v (is_in xs) (range 0 n) ∙ go v (is_in xs v) refl)
    where
      go : (v : ℕ) (b : Bool) → is_in xs v ≡ b → bit b * count v (range 0 n) ≡ count v xs
      go v true e =
          omega (arith, count-range v 0 n, in_count v (range 0 n) (is_in-range 0 n v (omega arith) (omega (arith, below v e))), once v, in_count v xs e)
      go v false e = omega (arith, out_count v xs e)

  pub once-short : length xs ≤ n
  once-short = omega (arith, once-length, length-filter-le (is_in xs) (range 0 n), length-range 0 n)
