-- A property of every element, through filters and concatenations.
use mathlib.Core.Bool.{Bool, true, false}
use mathlib.Core.List.{List, [], ◌∷◌, map}
use Prim.Native.Nat.{ℕ, zero, suc}
use Rattle.base.specs.Lists.{filter, keep, concat, range}
use Rattle.base.proofs.Each.{Each, each_append}

module _ {A : Type 0} (P : A → Type 0) where
  pub each-filter : (q : A → Bool) (xs : List A) → Each P xs → Each P (filter q xs)
  each-filter q [] h = tt
  each-filter q (x ∷ xs) h = go (q x) (each-filter q xs h.1)
    where
      go : (b : Bool) → Each P (filter q xs) → Each P (keep b x (filter q xs))
      go true k = (h.0, k)
      go false k = k

  -- of what a function gives of each element
  pub each-concat : {B : Type 0} (Q : B → Type 0) (f : B → List A) → ((b : B) → Q b → Each P (f b)) → (bs : List B) → Each Q bs → Each P (concat (map f bs))
  each-concat Q f h [] k = tt
  each-concat Q f h (b ∷ bs) k = each_append P (f b) (concat (map f bs)) (h b k.0) (each-concat Q f h bs k.1)

  -- .. of each number of a range
  pub each-range : (f : ℕ → List A) → ((i : ℕ) → Each P (f i)) → (k n : ℕ) → Each P (concat (map f (range k n)))
  each-range f h k zero = tt
  each-range f h k (suc n) = each_append P (f k) (concat (map f (range (suc k) n))) (h k) (each-range f h (suc k) n)

-- the elements that a function gives
pub each_mapped : {A B : Type 0} (P : A → Type 0) (Q : B → Type 0) (f : A → B) → ((a : A) → P a → Q (f a)) → (xs : List A) → Each P xs → Each Q (map f xs)
each_mapped P Q f h [] k = tt
each_mapped P Q f h (x ∷ xs) k = (h x k.0, each_mapped P Q f h xs k.1)

pub each-made : {A : Type 0} (P : A → Type 0) (f : ℕ → A) → ((i : ℕ) → P (f i)) → (k n : ℕ) → Each P (map f (range k n))
each-made P f h k zero = tt
each-made P f h k (suc n) = (h k, each-made P f h (suc k) n)
