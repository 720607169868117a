-- The elements that pass a test, by where they stand.
use mathlib.Core.Path.{◌≡◌, refl, ap}
use mathlib.Core.Bool.{Bool, true, false}
use mathlib.Core.List.{List, [], ◌∷◌}
use Prim.Native.Nat.{ℕ, zero, suc, ◌≤◌, ◌<◌}
use native.Mathlib.Omega.{arith}
use lib.ListN.{length, get_or}
use Rattle.base.specs.Lists.{filter, keep}
use Rattle.base.proofs.Each.{Each}

module _ {A : Type 0} where
  pub each-get : (P : A → Type 0) (xs : List A) (d : A) → Each P xs → (i : ℕ) → i < length xs → P (get_or xs i d)
  each-get P [] d a i l = absurd (omega arith)
  each-get P (x ∷ xs) d a zero l = a.0
  each-get P (x ∷ xs) d a (suc i) l = each-get P xs d a.1 i (omega arith)

module _ {A : Type 0} (p : A → Bool) (d : A) where
  -- one more, or not
  kept : (x : A) (xs : List A) (m : ℕ) → m ≤ length xs → m ≤ length (keep (p x) x xs)
  kept x xs m h = go (p x)
    where
      go : (b : Bool) → m ≤ length (keep b x xs)
      go true = omega arith
      go false = h

  pub filter-some : (xs : List A) (k : ℕ) → k < length xs → p (get_or xs k d) ≡ true → 1 ≤ length (filter p xs)
  filter-some [] k l h = absurd (omega arith)
  filter-some (x ∷ xs) zero l h = rw h (omega arith)
  filter-some (x ∷ xs) (suc k) l h = kept x (filter p xs) 1 (filter-some xs k (omega arith) h)

  pub filter-two : (xs : List A) (i k : ℕ) → i < k → k < length xs → p (get_or xs i d) ≡ true → p (get_or xs k d) ≡ true → 2 ≤ length (filter p xs)
  filter-two [] i k m l g h = absurd (omega arith)
  filter-two (x ∷ xs) i zero m l g h = absurd (omega arith)
  filter-two (x ∷ xs) zero (suc k) m l g h = rw g (omega (arith, filter-some xs k (omega arith) h))
  filter-two (x ∷ xs) (suc i) (suc k) m l g h = kept x (filter p xs) 2 (filter-two xs i k (omega arith) (omega arith) g h)

  -- where one passes and no other
  pub filter-one : (xs : List A) (k : ℕ) → k < length xs → p (get_or xs k d) ≡ true → length (filter p xs) ≤ 1 → filter p xs ≡ get_or xs k d ∷ []
  filter-one [] k l h f = absurd (omega arith)
  filter-one (x ∷ xs) zero l h f = rw h (ap (λ (ys : List A). x ∷ ys) (none (filter p xs) (rw h at f)))
    where
      none : (ys : List A) → length (x ∷ ys) ≤ 1 → ys ≡ []
      none [] l = refl
      none (y ∷ ys) l = absurd (omega arith)
  filter-one (x ∷ xs) (suc k) l h f = go (p x) f (filter-some xs k (omega arith) h) (filter-one xs k (omega arith) h)
    where
      go : (b : Bool) → length (keep b x (filter p xs)) ≤ 1 → 1 ≤ length (filter p xs) → (length (filter p xs) ≤ 1 → filter p xs ≡ get_or xs k d ∷ []) → keep b x (filter p xs) ≡ get_or xs k d ∷ []
      go true f s ih = absurd (omega arith)
      go false f s ih = ih f

  pub filter_where : (xs : List A) → 1 ≤ length (filter p xs) → (k : ℕ) × (k < length xs) × (p (get_or xs k d) ≡ true)
  filter_where [] h = absurd (omega arith)
  filter_where (x ∷ xs) h = go (p x) refl h (filter_where xs)
    where
      go : (b : Bool) → p x ≡ b → 1 ≤ length (keep b x (filter p xs)) → (1 ≤ length (filter p xs) → (k : ℕ) × (k < length xs) × (p (get_or xs k d) ≡ true))
          → (k : ℕ) × (k < suc (length xs)) × (p (get_or (x ∷ xs) k d) ≡ true)
      go true e h ih = (0, omega arith, e)
      go false e h ih = let (k, l, t) = ih h in (suc k, omega arith, t)
