-- A property of every element of a list, and of every two.
use mathlib.Core.Path.{◌≡◌, refl}
use mathlib.Core.Bool.{Bool, true}
use mathlib.Core.List.{List, [], ◌∷◌, ◌++◌}
use Prim.Native.Nat.{ℕ, zero, suc}
use lib.ListN.{get_or, take, drop}
use Rattle.base.specs.Lists.{all}
use Rattle.base.proofs.Booleans.{and_left, and_right}

module _ {ℓ} {A : Type ℓ} where
  -- every element has the property
  abbrev pub Each : (A → Type 0) → List A → Type 0
  Each P [] = Unit {0}
  Each P (x ∷ xs) = P x × Each P xs

  -- every element is so related to each later one
  abbrev pub Pairwise : (A → A → Type 0) → List A → Type 0
  Pairwise R [] = Unit {0}
  Pairwise R (x ∷ xs) = Each (R x) xs × Pairwise R xs

  -- from one property to another
  pub each_map : (P Q : A → Type 0) → ((x : A) → P x → Q x) → (xs : List A) → Each P xs → Each Q xs
  each_map P Q f [] h = tt
  each_map P Q f (x ∷ xs) h = (f x h.0, each_map P Q f xs h.1)

  -- of two lists
  pub each_append : (P : A → Type 0) (xs ys : List A) → Each P xs → Each P ys → Each P (xs ++ ys)
  each_append P [] ys a b = b
  each_append P (x ∷ xs) ys a b = (a.0, each_append P xs ys a.1 b)

  -- of a list's front, and of its rest
  pub each_take : (P : A → Type 0) (k : ℕ) (xs : List A) → Each P xs → Each P (take k xs)
  each_take P zero xs h = tt
  each_take P (suc k) [] h = tt
  each_take P (suc k) (x ∷ xs) h = (h.0, each_take P k xs h.1)

  pub each-drop : (P : A → Type 0) (k : ℕ) (xs : List A) → Each P xs → Each P (drop k xs)
  each-drop P zero xs h = h
  each-drop P (suc k) [] h = tt
  each-drop P (suc k) (x ∷ xs) h = each-drop P k xs h.1

  -- told place by place
  pub each-of-get : (P : A → Type 0) (xs : List A) (d : A) → ((i : ℕ) → P (get_or xs i d)) → Each P xs
  each-of-get P [] d h = tt
  each-of-get P (x ∷ xs) d h = (h 0, each-of-get P xs d (λ i. h (suc i)))

  -- .. or by a test
  pub all-each : (P : A → Type 0) (t : A → Bool) → ((x : A) → t x ≡ true → P x) → (xs : List A) → all t xs ≡ true → Each P xs
  all-each P t f [] h = tt
  all-each P t f (x ∷ xs) h = (f x (and_left (t x) (all t xs) h), all-each P t f xs (and_right (t x) (all t xs) h))

  pub each_all : (P : A → Type 0) (t : A → Bool) → ((x : A) → P x → t x ≡ true) → (xs : List A) → Each P xs → all t xs ≡ true
  each_all P t f [] h = refl
  each_all P t f (x ∷ xs) h = rw (f x h.0) (each_all P t f xs h.1)
