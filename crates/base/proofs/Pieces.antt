-- Lists made of pieces: `concat (map f xs)` has the piece f x for each x.
use mathlib.Core.Path.{◌≡◌, refl, sym, ap, ◌∙◌}
use mathlib.Core.Bool.{Bool, true, false, cond}
use mathlib.Core.List.{List, [], ◌∷◌, ◌++◌, map, map-append, map-map, map-id, append-nil}
use Prim.Native.Nat.{ℕ, zero, suc, ◌+◌, ◌-◌, ◌≤◌, ◌<◌}
use native.Mathlib.Omega.{arith}
use lib.Dec.{eqb}
use lib.ListN.{length, drop, length-append}
use lib.Seq.{slice, take-append-add, take-append_seam, drop-append_seam}
use borrow.Author.Tests.{eqb-true, eqb-false, eq-eqb}
use Rattle.base.specs.Lists.{filter, keep, concat, range, is_in, sum_below, bit}
use Rattle.base.proofs.Booleans.{or_true}
use Rattle.base.proofs.Lists.{concat-append, concat-filter, range_snoc, range-append, map-range-same}
use Rattle.base.proofs.Sums.{sum-below-same}

-- ---- filters and maps

module _ {A B : Type 0} where
  -- a filter after a map
  pub filter_map : (g : A → B) (p : B → Bool) (xs : List A) → filter p (map g xs) ≡ map g (filter (λ (x : A). p (g x)) xs)
  filter_map g p [] = refl
  filter_map g p (x ∷ xs) = go (p (g x)) (filter_map g p xs)
    where
      go : (b : Bool) → filter p (map g xs) ≡ map g (filter (λ (y : A). p (g y)) xs) → keep b (g x) (filter p (map g xs)) ≡ map g (keep b x (filter (λ (y : A). p (g y)) xs))
      go true e = ap (λ (l : List B). g x ∷ l) e
      go false e = e

  -- pieces of the elements that pass a test
  pub pieces_of-filter : (p : A → Bool) (f : A → List B) (xs : List A) → concat (map f (filter p xs)) ≡ concat (map (λ (x : A). cond (p x) (f x) []) xs)
  pieces_of-filter p f [] = refl
  pieces_of-filter p f (x ∷ xs) = go (p x) (pieces_of-filter p f xs)
    where
      go : (b : Bool) → concat (map f (filter p xs)) ≡ concat (map (λ (y : A). cond (p y) (f y) []) xs) → concat (map f (keep b x (filter p xs))) ≡ cond b (f x) [] ++ concat (map (λ (y : A). cond (p y) (f y) []) xs)
      go true e = ap (λ (l : List B). f x ++ l) e
      go false e = e

  -- pieces of one element
  pub pieces_single : (f : A → B) (xs : List A) → concat (map (λ (x : A). f x ∷ []) xs) ≡ map f xs
  pieces_single f [] = refl
  pieces_single f (x ∷ xs) = ap (λ (l : List B). f x ∷ l) (pieces_single f xs)

  -- a filter of pieces
  pub filter_pieces : (q : B → Bool) (f : A → List B) (xs : List A) → filter q (concat (map f xs)) ≡ concat (map (λ (x : A). filter q (f x)) xs)
  filter_pieces q f xs = sym (concat-filter q (map f xs)) ∙ ap concat (map-map (filter q) f xs)

module _ {A B C : Type 0} where
  -- a map of pieces
  pub map_pieces : (g : B → C) (f : A → List B) (xs : List A) → map g (concat (map f xs)) ≡ concat (map (λ (x : A). map g (f x)) xs)
  map_pieces g f [] = refl
  map_pieces g f (x ∷ xs) = map-append g (f x) (concat (map f xs)) ∙ ap (λ (l : List C). map g (f x) ++ l) (map_pieces g f xs)

-- functions that agree on the members of a list
pub map-members : {A : Type 0} (f g : ℕ → A) (xs : List ℕ) → ((v : ℕ) → is_in xs v ≡ true → f v ≡ g v) → map f xs ≡ map g xs
map-members f g [] h = refl
map-members f g (x ∷ xs) h = rw (h x (rw (eq-eqb x x refl)), map-members f g xs (λ v k. h v (rw k (or_true (eqb v x)))))

-- ---- one piece for each number of a range

module _ {A : Type 0} where
  -- one piece more
  pub pieces_snoc : (f : ℕ → List A) (k n : ℕ) → concat (map f (range k (suc n))) ≡ concat (map f (range k n)) ++ f (k + n)
  pieces_snoc f k n =
      ap (λ (l : List ℕ). concat (map f l)) (range_snoc k n) ∙ ap concat (map-append f (range k n) ((k + n) ∷ []))
      ∙ concat-append (map f (range k n)) (f (k + n) ∷ []) ∙ ap (λ (l : List A). concat (map f (range k n)) ++ l) (append-nil (f (k + n)))

  -- pieces that are the same
  pub pieces_same : (f g : ℕ → List A) (k n : ℕ) → ((c : ℕ) → k ≤ c → c < k + n → f c ≡ g c) → concat (map f (range k n)) ≡ concat (map g (range k n))
  pieces_same f g k n h = ap concat (map-range-same f g k n h)

  module _ (f : ℕ → List A) where
    -- empty pieces
    pub pieces_none : (k n : ℕ) → ((c : ℕ) → k ≤ c → c < k + n → f c ≡ []) → concat (map f (range k n)) ≡ []
    pieces_none k zero h = refl
    pieces_none k (suc n) h = rw (h k (omega arith) (omega arith)) (pieces_none (suc k) n (λ c a b. h c (omega arith) (omega arith)))

    -- one piece among empty ones
    pub pieces_one : (k n q : ℕ) → k ≤ q → q < k + n → ((c : ℕ) → k ≤ c → c < k + n → (c ≡ q → ⊥) → f c ≡ []) → concat (map f (range k n)) ≡ f q
    pieces_one k zero q a b h = absurd (omega arith)
    pieces_one k (suc n) q a b h = go (eqb k q) refl (λ a' b'. pieces_one (suc k) n q a' b' (λ c x y z. h c (omega arith) (omega arith) z))
      where
        go : (t : Bool) → eqb k q ≡ t → (suc k ≤ q → q < suc k + n → concat (map f (range (suc k) n)) ≡ f q) → f k ++ concat (map f (range (suc k) n)) ≡ f q
        go true e ih =
            let g = eqb-true k q e in
            rw (pieces_none (suc k) n (λ c x y. h c (omega arith) (omega arith) (λ (z : c ≡ q). omega arith))) (append-nil (f k) ∙ ap f g)
        go false e ih =
            let g = eqb-false k q e in
            let l : suc k ≤ q = omega arith in
            rw (h k (omega arith) (omega arith) g) (ih l (omega arith))

    -- how many elements they have
    pub length_pieces : (n : ℕ) → length (concat (map f (range 0 n))) ≡ sum_below (λ (c : ℕ). length (f c)) n
    unfolding sum_below
    length_pieces zero = refl
    length_pieces (suc n) =
        let z : 0 + n ≡ n = omega arith in
        let e : concat (map f (range 0 (suc n))) ≡ concat (map f (range 0 n)) ++ f n = pieces_snoc f 0 n ∙ ap (λ (i : ℕ). concat (map f (range 0 n)) ++ f i) z in
        ap length e ∙ length-append (concat (map f (range 0 n))) (f n) ∙ rw (length_pieces n)

-- ---- one piece between the others

module _ {A : Type 0} where
  -- the list between two others
  pub slice_between : (xs ys zs : List A) → slice (length xs) (length xs + length ys) (xs ++ (ys ++ zs)) ≡ ys
  slice_between xs ys zs =
      ap (drop (length xs)) (take-append-add xs (ys ++ zs) (length ys) ∙ ap (λ (l : List A). xs ++ l) (take-append_seam ys zs)) ∙ drop-append_seam xs ys

  -- piece i between the others
  pub pieces_between : (f : ℕ → List A) (n i : ℕ) → i < n → concat (map f (range 0 n)) ≡ concat (map f (range 0 i)) ++ (f i ++ concat (map f (range (suc i) (n - suc i))))
  pieces_between f n i l =
      let e : i + suc (n - suc i) ≡ n = omega arith in
      let z : 0 + i ≡ i = omega arith in
      ap (λ (k : ℕ). concat (map f (range 0 k))) (sym e) ∙ ap (λ (r : List ℕ). concat (map f r)) (range-append 0 i (suc (n - suc i)))
      ∙ ap concat (map-append f (range 0 i) (range (0 + i) (suc (n - suc i)))) ∙ concat-append (map f (range 0 i)) (map f (range (0 + i) (suc (n - suc i)))) ∙ rw z

-- how many numbers of a range pass a test
pub length-filter-range : (p : ℕ → Bool) (n : ℕ) → length (filter p (range 0 n)) ≡ sum_below (λ (i : ℕ). bit (p i)) n
length-filter-range p n =
    ap length (sym (pieces_single (λ (x : ℕ). x) (filter p (range 0 n)) ∙ map-id (filter p (range 0 n)))) ∙ ap length (pieces_of-filter p (λ (x : ℕ). x ∷ []) (range 0 n)) ∙ length_pieces (λ (x : ℕ). cond (p x) (x ∷ []) []) n
    ∙ sum-below-same (λ (i : ℕ). length (cond (p i) (i ∷ []) [])) (λ (i : ℕ). bit (p i)) n (λ i l. one i (p i))
  where
    one : (i : ℕ) (b : Bool) → length (cond b (i ∷ []) []) ≡ bit b
    one i true = refl
    one i false = refl
