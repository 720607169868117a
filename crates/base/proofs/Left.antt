-- Loops over 0 .. n - 1 or over a list: a test of every number or element is decided by those that are left.
use mathlib.Core.Path.{◌≡◌, refl, ap, ◌∙◌}
use mathlib.Core.Bool.{Bool, true, false, ◌&&◌}
use mathlib.Core.List.{List, [], ◌∷◌}
use Prim.Native.Nat.{ℕ, suc, ◌+◌, ◌-◌, ◌<◌}
use native.Mathlib.Numerals.{add-one}
use native.Mathlib.Omega.{arith}
use lib.ListN.{length, drop}
use lib.Seq.{drop-length}
use Rattle.base.specs.Lists.{all, range}
use Rattle.base.proofs.Booleans.{and_cross}

module _ (p : ℕ → Bool) (n : ℕ) where
  -- at first all are left
  pub all_left : all p (range 0 (n - 0)) ≡ all p (range 0 n)
  all_left = let e : n - 0 ≡ n = omega arith in ap (λ (k : ℕ). all p (range 0 k)) e

  pub all-left-next : (i : ℕ) → i < n → all p (range i (n - i)) ≡ p i && all p (range (i + 1) (n - (i + 1)))
  all-left-next i l = let e : n - i ≡ suc (n - (i + 1)) = omega arith in rw (e, add-one i)

  -- the next one passes, or fails
  pub all-left-pass : (i : ℕ) → i < n → p i ≡ true → all p (range i (n - i)) ≡ all p (range (i + 1) (n - (i + 1)))
  all-left-pass i l h = all-left-next i l ∙ rw h

  pub all-left_fail : (i : ℕ) → i < n → p i ≡ false → all p (range i (n - i)) ≡ false
  all-left_fail i l h = all-left-next i l ∙ rw h

  -- at the end none is left
  pub all-left-none : all p (range n (n - n)) ≡ true
  all-left-none = let e : n - n ≡ 0 = omega arith in rw e

module _ {ℓ} {A : Type ℓ} (p : A → Bool) (xs : List A) where
  pub all-drop-none : all p (drop (length xs) xs) ≡ true
  all-drop-none = rw (drop-length xs)

module _ {ℓ} {A : Type ℓ} where
  -- two tests of every element
  pub all-and : (p q : A → Bool) (xs : List A) → all (λ x. p x && q x) xs ≡ all p xs && all q xs
  all-and p q [] = refl
  all-and p q (x ∷ xs) = rw (all-and p q xs) (and_cross (p x) (q x) (all p xs) (all q xs))

  -- the same test of every element
  pub all_same : (p q : A → Bool) (xs : List A) → ((x : A) → p x ≡ q x) → all p xs ≡ all q xs
  all_same p q [] h = refl
  all_same p q (x ∷ xs) h = rw (h x, all_same p q xs h)
