-- Lists and tests that compute.
use Rattle.std.specs.Prelude.{Bool, true, false, not, ◌||◌, ◌&&◌, cond, List, [], ◌∷◌, ◌++◌, ℕ, zero, suc, ◌+◌, ◌-◌, eqb, ltb}

module _ {ℓ} {A : Type ℓ} where
  abbrev pub keep : Bool → A → List A → List A
  keep true x xs = x ∷ xs
  keep false x xs = xs

  -- the elements that pass the test, in their order
  abbrev pub filter : (A → Bool) → List A → List A
  filter p [] = []
  filter p (x ∷ xs) = keep (p x) x (filter p xs)

  -- some element passes the test
  abbrev pub any : (A → Bool) → List A → Bool
  any p [] = false
  any p (x ∷ xs) = p x || any p xs

  -- every element passes the test
  abbrev pub all : (A → Bool) → List A → Bool
  all p [] = true
  all p (x ∷ xs) = p x && all p xs

  -- the list from the first element on that passes the test
  abbrev pub from_first : (A → Bool) → List A → List A
  from_first p [] = []
  from_first p (x ∷ xs) = cond (p x) (x ∷ xs) (from_first p xs)

  -- the lists one after the other
  abbrev pub concat : List (List A) → List A
  concat [] = []
  concat (x ∷ xs) = x ++ concat xs

  abbrev pub trim_cons : List A → List (List A) → List (List A)
  trim_cons [] [] = []
  trim_cons [] (y ∷ ys) = [] ∷ y ∷ ys
  trim_cons (x ∷ xs) ys = (x ∷ xs) ∷ ys

  -- without the empty lists at the end
  abbrev pub trim : List (List A) → List (List A)
  trim [] = []
  trim (x ∷ xs) = trim_cons x (trim xs)

  abbrev pub is_empty : List A → Bool
  is_empty [] = true
  is_empty (x ∷ xs) = false

  -- of x and the elements xs the one of least score, the first on a tie
  unfoldable pub best : (score : A → ℕ) → A → List A → A
  best score x [] = x
  best score x (y ∷ ys) = best score (cond (ltb (score y) (score x)) y x) ys

  -- that element alone; of no elements none
  abbrev pub best_of : (score : A → ℕ) → List A → List A
  best_of score [] = []
  best_of score (x ∷ xs) = best score x xs ∷ []

-- v is in the list
abbrev pub is_in : List ℕ → ℕ → Bool
is_in xs v = any (eqb v) xs

-- xs begins with ys
abbrev pub begins : (xs ys : List ℕ) → Bool
begins xs [] = true
begins [] (y ∷ ys) = false
begins (x ∷ xs) (y ∷ ys) = eqb x y && begins xs ys

abbrev pub sum : List ℕ → ℕ
sum [] = 0
sum (x ∷ xs) = x + sum xs

-- k, k + 1, ..: n numbers
abbrev pub range : (k n : ℕ) → List ℕ
range k zero = []
range k (suc n) = k ∷ range (suc k) n

-- the sum of f 0 .. f (n - 1)
unfoldable pub sum_below : (ℕ → ℕ) → ℕ → ℕ
sum_below f zero = 0
sum_below f (suc n) = sum_below f n + f n

abbrev pub distance : ℕ → ℕ → ℕ
distance x y = (x - y) + (y - x)

-- 1 if the test holds, else 0
abbrev pub bit : Bool → ℕ
bit true = 1
bit false = 0

-- no number stands twice
abbrev pub distinct : List ℕ → Bool
distinct [] = true
distinct (x ∷ xs) = not (is_in xs x) && distinct xs

-- where v stands in a list; the list's length if it does not
unfoldable pub position_of : List ℕ → ℕ → ℕ
position_of [] v = 0
position_of (u ∷ us) v = cond (eqb u v) 0 (suc (position_of us v))
