-- Laws of lists: members, filters, ranges and concatenations.
use mathlib.Core.Path.{◌≡◌, refl, sym, ap, ◌∙◌, subst}
use mathlib.Core.Logic.{◌⊎◌, inl, inr, ◌≢◌}
use mathlib.Core.Bool.{Bool, true, false, not, ◌&&◌, ◌||◌, true≢false, and_comm, and_assoc}
use mathlib.Core.List.{List, [], ◌∷◌, ◌++◌, map, append_assoc}
use Prim.Native.Nat.{ℕ, zero, suc, ◌+◌, ◌-◌, ◌≤◌, ◌<◌}
use native.Mathlib.Omega.{arith}
use lib.Dec.{eqb, ltb}
use lib.ListN.{length, take, drop, get_or, set, replicate}
use lib.Seq.{slice, take-nil, drop-nil, get_or-set_same, get_or-set_other, take-set-le, take-set-lt, drop-set-lt, drop-set-add}
use borrow.Author.Tests.{eqb-true, eqb-false, eq-eqb, ltb-true, ltb-false}
use Rattle.base.specs.Lists.{filter, keep, any, all, is_in, concat, range, trim, trim_cons}
use Rattle.base.proofs.Booleans.{and_false, and_left, and_right, or_true, or_cases, both_ways}

module _ {ℓ} {A : Type ℓ} where
  pub filter-append : (p : A → Bool) (xs ys : List A) → filter p (xs ++ ys) ≡ filter p xs ++ filter p ys
  filter-append p [] ys = refl
  filter-append p (x ∷ xs) ys = go (p x) (filter-append p xs ys)
    where
      go : (b : Bool) → filter p (xs ++ ys) ≡ filter p xs ++ filter p ys → keep b x (filter p (xs ++ ys)) ≡ keep b x (filter p xs) ++ filter p ys
      go true ih = rw ih refl
      go false ih = ih

  pub concat-append : (xs ys : List (List A)) → concat (xs ++ ys) ≡ concat xs ++ concat ys
  concat-append [] ys = refl
  concat-append (x ∷ xs) ys = ap (λ (r : List A). x ++ r) (concat-append xs ys) ∙ sym (append_assoc x (concat xs) (concat ys))

  pub concat-filter : (p : A → Bool) (ls : List (List A)) → concat (map (filter p) ls) ≡ filter p (concat ls)
  concat-filter p [] = refl
  concat-filter p (l ∷ ls) = ap (λ (r : List A). filter p l ++ r) (concat-filter p ls) ∙ sym (filter-append p l (concat ls))

  pub concat-trim : (ls : List (List A)) → concat (trim ls) ≡ concat ls
  concat-trim [] = refl
  concat-trim (l ∷ ls) = go l (trim ls) (concat-trim ls)
    where
      go : (x : List A) (ys : List (List A)) → concat ys ≡ concat ls → concat (trim_cons x ys) ≡ x ++ concat ls
      go [] [] e = e
      go [] (y ∷ ys) e = e
      go (x ∷ xs) ys e = rw e refl

  pub length-split : (p : A → Bool) (xs : List A) → length (filter p xs) + length (filter (λ v. not (p v)) xs) ≡ length xs
  length-split p [] = refl
  length-split p (x ∷ xs) = go (p x) (length-split p xs)
    where
      go : (b : Bool) → length (filter p xs) + length (filter (λ v. not (p v)) xs) ≡ length xs
          → length (keep b x (filter p xs)) + length (keep (not b) x (filter (λ v. not (p v)) xs)) ≡ suc (length xs)
      go true ih = omega arith
      go false ih = omega arith

  pub length-filter-le : (p : A → Bool) (xs : List A) → length (filter p xs) ≤ length xs
  length-filter-le p xs = omega (arith, length-split p xs)

  pub all-get : (p : A → Bool) (xs : List A) (i : ℕ) (d : A) → all p xs ≡ true → i < length xs → p (get_or xs i d) ≡ true
  all-get p [] i d h l = absurd (omega arith)
  all-get p (x ∷ xs) zero d h l = and_left (p x) (all p xs) h
  all-get p (x ∷ xs) (suc i) d h l = all-get p xs i d (and_right (p x) (all p xs) h) (omega arith)

  pub get-all : (p : A → Bool) (xs : List A) (d : A) → ((i : ℕ) → i < length xs → p (get_or xs i d) ≡ true) → all p xs ≡ true
  get-all p [] d h = refl
  get-all p (x ∷ xs) d h = rw (h 0 (omega arith)) (get-all p xs d (λ i l. h (suc i) (omega arith)))

  pub all_append : (p : A → Bool) (xs ys : List A) → all p (xs ++ ys) ≡ all p xs && all p ys
  all_append p [] ys = refl
  all_append p (x ∷ xs) ys = rw (all_append p xs ys) (sym (and_assoc (p x) (all p xs) (all p ys)))

  -- one element is set
  pub all_set : (p : A → Bool) (xs : List A) (i : ℕ) (v : A) → all p xs ≡ true → p v ≡ true → all p (set xs i v) ≡ true
  all_set p [] i v h e = refl
  all_set p (x ∷ xs) zero v h e = rw e (and_right (p x) (all p xs) h)
  all_set p (x ∷ xs) (suc i) v h e = rw (and_left (p x) (all p xs) h) (all_set p xs i v (and_right (p x) (all p xs) h) e)

module _ {A B : Type 0} where
  -- a test of what a function gives of each element
  pub all_map : (p : B → Bool) (f : A → B) (xs : List A) → all p (map f xs) ≡ all (λ x. p (f x)) xs
  all_map p f [] = refl
  all_map p f (x ∷ xs) = rw (all_map p f xs)

  -- element i of what a function gives of a list
  pub map_get : (f : A → B) (xs : List A) (i : ℕ) (d : A) (e : B) → i < length xs → get_or (map f xs) i e ≡ f (get_or xs i d)
  map_get f [] i d e l = absurd (omega arith)
  map_get f (x ∷ xs) zero d e l = refl
  map_get f (x ∷ xs) (suc i) d e l = map_get f xs i d e (omega arith)

-- a test of pieces, one for each number of a list
pub all_pieces : {A : Type 0} (p : A → Bool) (f : ℕ → List A) (xs : List ℕ) (i : ℕ) → all p (concat (map f xs)) ≡ true → is_in xs i ≡ true → all p (f i) ≡ true
all_pieces p f [] i h m = absurd (true≢false (sym m))
all_pieces p f (x ∷ xs) i h m = go (or_cases (eqb i x) (is_in xs i) m) (all_pieces p f xs i (and_right (all p (f x)) (all p (concat (map f xs))) both))
  where
    both : all p (f x) && all p (concat (map f xs)) ≡ true
    both = sym (all_append p (f x) (concat (map f xs))) ∙ h

    go : (eqb i x ≡ true) ⊎ (is_in xs i ≡ true) → (is_in xs i ≡ true → all p (f i) ≡ true) → all p (f i) ≡ true
    go (inl e) ih = rw (eqb-true i x e) (and_left (all p (f x)) (all p (concat (map f xs))) both)
    go (inr k) ih = ih k

-- membership in a filtered list
pub is_in-filter : (p : ℕ → Bool) (xs : List ℕ) (v : ℕ) → is_in (filter p xs) v ≡ is_in xs v && p v
is_in-filter p [] v = refl
is_in-filter p (x ∷ xs) v = go (p x) (eqb v x) refl refl (is_in-filter p xs v)
  where
    go : (b c : Bool) → p x ≡ b → eqb v x ≡ c → is_in (filter p xs) v ≡ is_in xs v && p v
        → is_in (keep b x (filter p xs)) v ≡ (c || is_in xs v) && p v
    go true true e f ih = rw f (sym (subst (λ (y : ℕ). p y ≡ true) (sym (eqb-true v x f)) e))
    go true false e f ih = rw f ih
    go false true e f ih =
        let pv : p v ≡ false = subst (λ (y : ℕ). p y ≡ false) (sym (eqb-true v x f)) e in
        ih ∙ rw pv (and_false (is_in xs v))
    go false false e f ih = ih

pub is_in-append : (xs ys : List ℕ) (v : ℕ) → is_in (xs ++ ys) v ≡ is_in xs v || is_in ys v
is_in-append [] ys v = refl
is_in-append (x ∷ xs) ys v = ap (λ (b : Bool). eqb v x || b) (is_in-append xs ys v) ∙ assoc (eqb v x) (is_in xs v) (is_in ys v)
  where
    assoc : (a b c : Bool) → a || (b || c) ≡ (a || b) || c
    assoc true b c = refl
    assoc false b c = refl

-- an element that passes makes any pass
pub any_of : (p : ℕ → Bool) (xs : List ℕ) (v : ℕ) → is_in xs v ≡ true → p v ≡ true → any p xs ≡ true
any_of p [] v h e = h
any_of p (x ∷ xs) v h e = go (or_cases (eqb v x) (is_in xs v) h) (λ k. any_of p xs v k e)
  where
    go : (eqb v x ≡ true) ⊎ (is_in xs v ≡ true) → (is_in xs v ≡ true → any p xs ≡ true) → p x || any p xs ≡ true
    go (inl f) ih = rw (subst (λ (y : ℕ). p y ≡ true) (eqb-true v x f) e)
    go (inr k) ih = rw (ih k) (or_true (p x))

-- a member of a list of lists, in the list at its place
pub is_in-concat : (ls : List (List ℕ)) (v : ℕ) → is_in (concat ls) v ≡ true → (i : ℕ) × (is_in (get_or ls i []) v ≡ true)
is_in-concat [] v h = (0, h)
is_in-concat (l ∷ ls) v h = go (or_cases (is_in l v) (is_in (concat ls) v) (sym (is_in-append l (concat ls) v) ∙ h)) (λ k. is_in-concat ls v k)
  where
    go : (is_in l v ≡ true) ⊎ (is_in (concat ls) v ≡ true) → (is_in (concat ls) v ≡ true → (i : ℕ) × (is_in (get_or ls i []) v ≡ true))
        → (i : ℕ) × (is_in (get_or (l ∷ ls) i []) v ≡ true)
    go (inl k) ih = (0, k)
    go (inr k) ih = let (i, m) = ih k in (suc i, m)

pub filter_in : (p : ℕ → Bool) (xs : List ℕ) (v : ℕ) → is_in (filter p xs) v ≡ true → is_in xs v ≡ true
filter_in p xs v h = and_left (is_in xs v) (p v) (sym (is_in-filter p xs v) ∙ h)

pub filter_passes : (p : ℕ → Bool) (xs : List ℕ) (v : ℕ) → is_in (filter p xs) v ≡ true → p v ≡ true
filter_passes p xs v h = and_right (is_in xs v) (p v) (sym (is_in-filter p xs v) ∙ h)

pub filter-of : (p : ℕ → Bool) (xs : List ℕ) (v : ℕ) → is_in xs v ≡ true → p v ≡ true → is_in (filter p xs) v ≡ true
filter-of p xs v h e = is_in-filter p xs v ∙ rw (h, e)

pub in_pos : (xs : List ℕ) (v : ℕ) → is_in xs v ≡ true → 1 ≤ length xs
in_pos [] v h = absurd (true≢false (sym h))
in_pos (x ∷ xs) v h = omega arith

pub any-get : (p : ℕ → Bool) (xs : List ℕ) → any p xs ≡ true → (t : ℕ) × (is_in xs t ≡ true) × (p t ≡ true)
any-get p [] h = absurd (true≢false (sym h))
any-get p (x ∷ xs) h = go (or_cases (p x) (any p xs) h) (λ k. any-get p xs k)
  where
    go : (p x ≡ true) ⊎ (any p xs ≡ true) → (any p xs ≡ true → (t : ℕ) × (is_in xs t ≡ true) × (p t ≡ true))
        → (t : ℕ) × (is_in (x ∷ xs) t ≡ true) × (p t ≡ true)
    go (inl e) ih = (x, rw (eq-eqb x x refl) refl, e)
    go (inr k) ih = let (t, a, b) = ih k in (t, rw a (or_true (eqb t x)), b)

-- lists with the same members
pub any_same : (p : ℕ → Bool) (xs ys : List ℕ) → ((v : ℕ) → is_in xs v ≡ is_in ys v) → any p xs ≡ any p ys
any_same p xs ys same = both_ways (any p xs) (any p ys) (λ h. moved xs ys same h) (λ h. moved ys xs (λ v. sym (same v)) h)
  where
    moved : (xs ys : List ℕ) → ((v : ℕ) → is_in xs v ≡ is_in ys v) → any p xs ≡ true → any p ys ≡ true
    moved xs ys same h = let (v, a, b) = any-get p xs h in any_of p ys v (sym (same v) ∙ a) b

pub length-range : (k n : ℕ) → length (range k n) ≡ n
length-range k zero = refl
length-range k (suc n) = ap suc (length-range (suc k) n)

pub is_in-range : (k n v : ℕ) → k ≤ v → v < k + n → is_in (range k n) v ≡ true
is_in-range k zero v a b = absurd (omega arith)
is_in-range k (suc n) v a b = go (eqb v k) refl (λ c. is_in-range (suc k) n v c (omega arith))
  where
    go : (c : Bool) → eqb v k ≡ c → (suc k ≤ v → is_in (range (suc k) n) v ≡ true) → eqb v k || is_in (range (suc k) n) v ≡ true
    go true e ih = rw e refl
    go false e ih = let ne : v ≢ k = eqb-false v k e in rw e (ih (omega arith))

-- who is in a trimmed list of lists is in the list at the same place
pub trim_at : (ls : List (List ℕ)) (i v : ℕ) → is_in (get_or (trim ls) i []) v ≡ true → is_in (get_or ls i []) v ≡ true
trim_at [] i v h = h
trim_at (l ∷ ls) i v h = go l (trim ls) i h (λ j k. trim_at ls j v k)
  where
    go : (x : List ℕ) (ys : List (List ℕ)) (i : ℕ) → is_in (get_or (trim_cons x ys) i []) v ≡ true
        → ((j : ℕ) → is_in (get_or ys j []) v ≡ true → is_in (get_or ls j []) v ≡ true) → is_in (get_or (x ∷ ls) i []) v ≡ true
    go [] [] i h ih = absurd (true≢false (sym h))
    go [] (y ∷ ys) zero h ih = h
    go [] (y ∷ ys) (suc i) h ih = ih i h
    go (x ∷ xs) ys zero h ih = h
    go (x ∷ xs) ys (suc i) h ih = ih i h

pub range_in : (v k m : ℕ) → is_in (range k m) v ≡ true → (k ≤ v) × (v < k + m)
range_in v k zero h = absurd (true≢false (sym h))
range_in v k (suc m) h = go (or_cases (eqb v k) (is_in (range (suc k) m) v) h) (range_in v (suc k) m)
  where
    go : (eqb v k ≡ true) ⊎ (is_in (range (suc k) m) v ≡ true) → (is_in (range (suc k) m) v ≡ true → (suc k ≤ v) × (v < suc k + m)) → (k ≤ v) × (v < k + suc m)
    go (inl e) ih = let q : v ≡ k = eqb-true v k e in omega arith
    go (inr e) ih = let i = ih e in omega arith

pub range_snoc : (k m : ℕ) → range k (suc m) ≡ range k m ++ ((k + m) ∷ [])
range_snoc k zero = (let e : k ≡ k + 0 = omega arith in ap (λ (y : ℕ). y ∷ []) e)
range_snoc k (suc m) = ap (λ (l : List ℕ). k ∷ l) (range_snoc (suc k) m ∙ (let e : suc k + m ≡ k + suc m = omega arith in ap (λ (y : ℕ). range (suc k) m ++ (y ∷ [])) e))

pub all_of : (p : ℕ → Bool) (xs : List ℕ) (v : ℕ) → all p xs ≡ true → is_in xs v ≡ true → p v ≡ true
all_of p [] v h m = absurd (true≢false (sym m))
all_of p (x ∷ xs) v h m = go (or_cases (eqb v x) (is_in xs v) m) (all_of p xs v (and_right (p x) (all p xs) h))
  where
    go : (eqb v x ≡ true) ⊎ (is_in xs v ≡ true) → (is_in xs v ≡ true → p v ≡ true) → p v ≡ true
    go (inl e) ih = subst (λ (y : ℕ). p y ≡ true) (sym (eqb-true v x e)) (and_left (p x) (all p xs) h)
    go (inr k) ih = ih k

-- every number of a range passes
pub all-range : (p : ℕ → Bool) (n i : ℕ) → all p (range 0 n) ≡ true → i < n → p i ≡ true
all-range p n i h l = all_of p (range 0 n) i h (is_in-range 0 n i (omega arith) (omega arith))

-- every member passes
pub of-all : (p : ℕ → Bool) (xs : List ℕ) → ((v : ℕ) → is_in xs v ≡ true → p v ≡ true) → all p xs ≡ true
of-all p [] h = refl
of-all p (x ∷ xs) h = rw (h x (rw (eq-eqb x x refl) refl)) (of-all p xs (λ v i. h v (rw i (or_true (eqb v x)))))

pub range_all : (p : ℕ → Bool) (n : ℕ) → ((i : ℕ) → i < n → p i ≡ true) → all p (range 0 n) ≡ true
range_all p n h = of-all p (range 0 n) (λ i e. h i (omega (arith, (range_in i 0 n e).1)))

module _ {ℓ} {A : Type ℓ} where
  -- two functions that agree on a range
  pub map-range-same : (f g : ℕ → A) (k m : ℕ) → ((i : ℕ) → k ≤ i → i < k + m → f i ≡ g i) → map f (range k m) ≡ map g (range k m)
  map-range-same f g k zero h = refl
  map-range-same f g k (suc m) h = rw (h k (omega arith) (omega arith), map-range-same f g (suc k) m (λ i a b. h i (omega arith) (omega arith)))

  -- element i of a list made number by number
  pub map-range_at : (f : ℕ → A) (k m i : ℕ) (d : A) → i < m → get_or (map f (range k m)) i d ≡ f (k + i)
  map-range_at f k zero i d l = absurd (omega arith)
  map-range_at f k (suc m) zero d l = (let e : k ≡ k + 0 = omega arith in ap f e)
  map-range_at f k (suc m) (suc i) d l = map-range_at f (suc k) m i d (omega arith) ∙ (let e : suc k + i ≡ k + suc i = omega arith in ap f e)

  -- .. from 0 on
  pub map-range-zero : (f : ℕ → A) (m i : ℕ) (d : A) → i < m → get_or (map f (range 0 m)) i d ≡ f i
  map-range-zero f m i d l = map-range_at f 0 m i d l ∙ (let e : 0 + i ≡ i = omega arith in ap f e)

module _ {ℓ} {A : Type ℓ} where
  -- a part of a list by its length
  pub take-drop : (a e : ℕ) (xs : List A) → take (e - a) (drop a xs) ≡ slice a e xs
  take-drop zero e xs = let z : e - 0 ≡ e = omega arith in rw z
  take-drop (suc a) zero xs = let z : 0 - suc a ≡ 0 = omega arith in rw z (sym (drop-nil (suc a)))
  take-drop (suc a) (suc e) [] = take-nil (suc e - suc a)
  take-drop (suc a) (suc e) (x ∷ xs) = let z : suc e - suc a ≡ e - a = omega arith in rw z (take-drop a e xs)

-- members

pub in_get : (xs : List ℕ) (i : ℕ) → i < length xs → is_in xs (get_or xs i 0) ≡ true
in_get [] i l = absurd (omega arith)
in_get (x ∷ xs) zero l = rw (eq-eqb x x refl)
in_get (x ∷ xs) (suc i) l = rw (in_get xs i (omega arith)) (or_true (eqb (get_or xs i 0) x))

pub get_in : (xs : List ℕ) (v : ℕ) → is_in xs v ≡ true → (i : ℕ) × (i < length xs) × (get_or xs i 0 ≡ v)
get_in [] v h = absurd (true≢false (sym h))
get_in (x ∷ xs) v h = go (or_cases (eqb v x) (is_in xs v) h) (get_in xs v)
  where
    go : (eqb v x ≡ true) ⊎ (is_in xs v ≡ true) → (is_in xs v ≡ true → (i : ℕ) × (i < length xs) × (get_or xs i 0 ≡ v)) → (i : ℕ) × (i < suc (length xs)) × (get_or (x ∷ xs) i 0 ≡ v)
    go (inl e) ih = (0, omega arith, sym (eqb-true v x e))
    go (inr k) ih = let (i, a, b) = ih k in (suc i, omega arith, b)

pub is_in-concat-map : (f : ℕ → List ℕ) (xs : List ℕ) (v : ℕ) → is_in (concat (map f xs)) v ≡ any (λ u. is_in (f u) v) xs
is_in-concat-map f [] v = refl
is_in-concat-map f (x ∷ xs) v = is_in-append (f x) (concat (map f xs)) v ∙ ap (λ (b : Bool). is_in (f x) v || b) (is_in-concat-map f xs v)

-- tests that agree on the members of a list
module _ (p q : ℕ → Bool) where
  pub filter_ext : (xs : List ℕ) → ((v : ℕ) → is_in xs v ≡ true → p v ≡ q v) → filter p xs ≡ filter q xs
  filter_ext [] h = refl
  filter_ext (x ∷ xs) h =
      let e : p x ≡ q x = h x (rw (eq-eqb x x refl)) in
      let ih : filter p xs ≡ filter q xs = filter_ext xs (λ v k. h v (rw k (or_true (eqb v x)))) in
      rw (e, ih)

  pub any_ext : (xs : List ℕ) → ((v : ℕ) → is_in xs v ≡ true → p v ≡ q v) → any p xs ≡ any q xs
  any_ext [] h = refl
  any_ext (x ∷ xs) h =
      let e : p x ≡ q x = h x (rw (eq-eqb x x refl)) in
      let ih : any p xs ≡ any q xs = any_ext xs (λ v k. h v (rw k (or_true (eqb v x)))) in
      rw (e, ih)

  pub filter-filter : (xs : List ℕ) → filter q (filter p xs) ≡ filter (λ v. p v && q v) xs
  filter-filter [] = refl
  filter-filter (x ∷ xs) = go (p x) (filter-filter xs)
    where
      go : (b : Bool) → filter q (filter p xs) ≡ filter (λ v. p v && q v) xs
          → filter q (keep b x (filter p xs)) ≡ keep (b && q x) x (filter (λ v. p v && q v) xs)
      go true ih = rw ih
      go false ih = ih

pub filter_swap : (p q : ℕ → Bool) (xs : List ℕ) → filter q (filter p xs) ≡ filter p (filter q xs)
filter_swap p q xs =
    filter-filter p q xs ∙ filter_ext (λ v. p v && q v) (λ v. q v && p v) xs (λ v h. and_comm (p v) (q v)) ∙ sym (filter-filter q p xs)

pub filter_none : (p : ℕ → Bool) (xs : List ℕ) → ((v : ℕ) → is_in xs v ≡ true → p v ≡ false) → filter p xs ≡ []
filter_none p xs h = filter_ext p (λ v. false) xs h ∙ none xs
  where
    none : (xs : List ℕ) → filter (λ (v : ℕ). false) xs ≡ []
    none [] = refl
    none (x ∷ xs) = none xs

pub filter-all : (p : ℕ → Bool) (xs : List ℕ) → ((v : ℕ) → is_in xs v ≡ true → p v ≡ true) → filter p xs ≡ xs
filter-all p xs h = filter_ext p (λ v. true) xs h ∙ every xs
  where
    every : (xs : List ℕ) → filter (λ (v : ℕ). true) xs ≡ xs
    every [] = refl
    every (x ∷ xs) = ap (λ (l : List ℕ). x ∷ l) (every xs)

-- the first element that passes
pub filter-first : (p : ℕ → Bool) (xs : List ℕ) (i : ℕ) → i < length xs → ((j : ℕ) → j < i → p (get_or xs j 0) ≡ false) → p (get_or xs i 0) ≡ true
    → take 1 (filter p xs) ≡ get_or xs i 0 ∷ []
filter-first p [] i l h e = absurd (omega arith)
filter-first p (x ∷ xs) zero l h e = rw e
filter-first p (x ∷ xs) (suc i) l h e =
    let out : p x ≡ false = h 0 (omega arith) in
    rw out (filter-first p xs i (omega arith) (λ j k. h (suc j) (omega arith)) e)

-- ranges

pub range-append : (k m j : ℕ) → range k (m + j) ≡ range k m ++ range (k + m) j
range-append k zero j = (let e : k ≡ k + 0 = omega arith in let z : 0 + j ≡ j = omega arith in ap (λ (y : ℕ). range k y) z ∙ ap (λ (y : ℕ). range y j) e)
range-append k (suc m) j =
    let s : suc m + j ≡ suc (m + j) = omega arith in
    let e : suc k + m ≡ k + suc m = omega arith in
    ap (range k) s ∙ ap (λ (l : List ℕ). k ∷ l) (range-append (suc k) m j ∙ ap (λ (y : ℕ). range (suc k) m ++ range y j) e)

-- each place of a filtered range
pub filter-range-get : (p : ℕ → Bool) (n : ℕ) (xs : List ℕ) → xs ≡ filter p (range 0 n) → (i : ℕ) → i < length xs → (get_or xs i 0 < n) × (p (get_or xs i 0) ≡ true)
filter-range-get p n xs e i l =
    let v = get_or xs i 0 in
    let here : is_in (filter p (range 0 n)) (get_or xs i 0) ≡ true = subst (λ (ys : List ℕ). is_in ys (get_or xs i 0) ≡ true) e (in_get xs i l) in
    (omega (arith, (range_in v 0 n (filter_in p (range 0 n) v here)).1), filter_passes p (range 0 n) v here)

-- one number passes that did not
pub filter-one_more : (p q : ℕ → Bool) (k m v : ℕ) → k ≤ v → v < k + m → p v ≡ true → q v ≡ false → ((x : ℕ) → x ≢ v → p x ≡ q x)
    → length (filter p (range k m)) ≡ suc (length (filter q (range k m)))
filter-one_more p q k zero v a b pt qf h = absurd (omega arith)
filter-one_more p q k (suc m) v a b pt qf h = go (eqb v k) refl (λ l. filter-one_more p q (suc k) m v l (omega arith) pt qf h)
  where
    go : (t : Bool) → eqb v k ≡ t → (suc k ≤ v → length (filter p (range (suc k) m)) ≡ suc (length (filter q (range (suc k) m))))
        → length (keep (p k) k (filter p (range (suc k) m))) ≡ suc (length (keep (q k) k (filter q (range (suc k) m))))
    go true e ih =
        let vk : v ≡ k = eqb-true v k e in
        let pk : p k ≡ true = subst (λ (y : ℕ). p y ≡ true) vk pt in
        let qk : q k ≡ false = subst (λ (y : ℕ). q y ≡ false) vk qf in
        let s : filter p (range (suc k) m) ≡ filter q (range (suc k) m) = filter_ext p q (range (suc k) m) (λ x i. h x (λ e. omega (arith, range_in x (suc k) m i))) in
        rw (pk, qk, s)
    go false e ih =
        let ne : v ≢ k = eqb-false v k e in
        let s : p k ≡ q k = h k (λ e. omega arith) in
        rw s (both (q k) (ih (omega arith)))
      where
        both : (b : Bool) → length (filter p (range (suc k) m)) ≡ suc (length (filter q (range (suc k) m)))
            → length (keep b k (filter p (range (suc k) m))) ≡ suc (length (keep b k (filter q (range (suc k) m))))
        both true i = ap suc i
        both false i = i

-- stores

-- what holds of the place that is set, and of the others as they were, holds of each
pub set-each : (P : ℕ → ℕ → Type 0) (xs : List ℕ) (k q : ℕ) → k < length xs → P k q → ((j : ℕ) → j ≢ k → P j (get_or xs j 0)) → (j : ℕ) → P j (get_or (set xs k q) j 0)
set-each P xs k q l h g j = go (eqb j k) refl
  where
    go : (b : Bool) → eqb j k ≡ b → P j (get_or (set xs k q) j 0)
    go true e = subst (λ (x : ℕ). P x (get_or (set xs k q) x 0)) (sym (eqb-true j k e)) (rw (get_or-set_same xs k q 0 l) h)
    go false e = let d : j ≢ k = eqb-false j k e in rw (get_or-set_other xs k j q 0 d) (g j d)

-- a list of zeros has 0 everywhere
pub get_d_zeros : (n i : ℕ) → ◌≡◌ {A = ℕ} (get_or (replicate n 0) i 0) 0
get_d_zeros zero i = refl
get_d_zeros (suc n) zero = refl
get_d_zeros (suc n) (suc i) = get_d_zeros n i

-- a part of a list, one place of the list set: before the part, in it, after it
module _ {A : Type 0} (a e p : ℕ) (xs : List A) (v : A) where
  pub slice_set-after : e ≤ p → slice a e (set xs p v) ≡ slice a e xs
  slice_set-after h = ap (drop a) (take-set-le e xs p v h)

  pub slice_set-before : p < a → slice a e (set xs p v) ≡ slice a e xs
  slice_set-before h = go (ltb p e) refl
    where
      go : (t : Bool) → ltb p e ≡ t → slice a e (set xs p v) ≡ slice a e xs
      go true q = ap (drop a) (take-set-lt e xs p v (ltb-true p e q)) ∙ drop-set-lt a (take e xs) p v h
      go false q = slice_set-after (ltb-false p e q)

  pub slice_set_in : a ≤ p → p < e → slice a e (set xs p v) ≡ set (slice a e xs) (p - a) v
  slice_set_in h k =
      let q : p ≡ a + (p - a) = omega arith in
      ap (drop a) (take-set-lt e xs p v k ∙ ap (λ (y : ℕ). set (take e xs) y v) q) ∙ drop-set-add a (take e xs) (p - a) v
