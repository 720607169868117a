-- Ascending columns: the place of a column among them, and the value beside it.
use mathlib.Core.Path.{◌≡◌, refl, sym, ap, ◌∙◌, subst}
use mathlib.Core.Logic.{◌⊎◌, inl, inr, ◌≢◌}
use mathlib.Core.Bool.{Bool, true, false, ◌||◌, cond, true≢false}
use mathlib.Core.List.{List, [], ◌∷◌}
use Prim.Native.Nat.{ℕ, zero, suc, ◌+◌, ◌≤◌, ◌<◌}
use native.Mathlib.Omega.{arith}
use lib.Dec.{eqb, ltb}
use lib.IntN.{ℤ, pos}
use lib.ListN.{length, get_or, take}
use borrow.Author.Tests.{ltb-true, ltb-false, lt-ltb, le-ltb, eqb-true, eq-eqb, ne_eqb}
use Rattle.base.specs.Lists.{filter, keep, is_in, range, bit}
use Rattle.base.proofs.Booleans.{and_left, and_right, or_true, or_cases, same_or}
use Rattle.base.proofs.Lists.{filter_in, range_in}
use Rattle.matrix.specs.Matrix.{ascending, lookup}
use Rattle.matrix.specs.Code.Checks.{place_in}

pub ascending_tail : (c : ℕ) (cs : List ℕ) → ascending (c ∷ cs) ≡ true → ascending cs ≡ true
unfolding ascending
ascending_tail c [] h = refl
ascending_tail c (d ∷ cs) h = and_right (ltb c d) (ascending (d ∷ cs)) h

-- the first column is below every other
pub ascending-first : (c : ℕ) (cs : List ℕ) → ascending (c ∷ cs) ≡ true → (k : ℕ) → k < length cs → c < get_or cs k 0
unfolding ascending
ascending-first c [] h k l = absurd (omega arith)
ascending-first c (d ∷ cs) h zero l = ltb-true c d (and_left (ltb c d) (ascending (d ∷ cs)) h)
ascending-first c (d ∷ cs) h (suc k) l =
    let first = ltb-true c d (and_left (ltb c d) (ascending (d ∷ cs)) h) in
    omega (arith, ascending-first d cs (and_right (ltb c d) (ascending (d ∷ cs)) h) k (omega arith))

-- every column is below each later one
pub ascending_less : (cs : List ℕ) (k l : ℕ) → ascending cs ≡ true → k < l → l < length cs → get_or cs k 0 < get_or cs l 0
ascending_less [] k l h a b = absurd (omega arith)
ascending_less (c ∷ cs) k zero h a b = absurd (omega arith)
ascending_less (c ∷ cs) zero (suc l) h a b = ascending-first c cs h l (omega arith)
ascending_less (c ∷ cs) (suc k) (suc l) h a b = ascending_less cs k l (ascending_tail c cs h) (omega arith) (omega arith)

-- columns ascend if each is below the next
pub ascending-made : (cs : List ℕ) → ((k : ℕ) → suc k < length cs → get_or cs k 0 < get_or cs (suc k) 0) → ascending cs ≡ true
unfolding ascending
ascending-made [] h = refl
ascending-made (c ∷ []) h = refl
ascending-made (c ∷ d ∷ cs) h = rw (lt-ltb c d (h 0 (omega arith))) (ascending-made (d ∷ cs) (λ k l. h (suc k) (omega arith)))

-- the numbers of a range that pass a test ascend
pub ascending_passing : (p : ℕ → Bool) (k l : ℕ) → ascending (filter p (range k l)) ≡ true
unfolding ascending
ascending_passing p k zero = refl
ascending_passing p k (suc l) = go (p k) (filter p (range (suc k) l)) refl (ascending_passing p (suc k) l)
  where
    go : (b : Bool) (xs : List ℕ) → filter p (range (suc k) l) ≡ xs → ascending xs ≡ true → ascending (keep b k xs) ≡ true
    go true [] e ih = refl
    go true (x ∷ xs) e ih = rw (lt-ltb k x (range_in x (suc k) l (filter_in p (range (suc k) l) x (rw (e, eq-eqb x x refl)))).0, ih)
    go false xs e ih = ih

-- ---- the place of a column

-- no later column is below one that is not above the first
pub place_none : (c : ℕ) (cs : List ℕ) (j : ℕ) → ascending (c ∷ cs) ≡ true → j ≤ c → place_in cs j ≡ 0
unfolding place_in
place_none c [] j h l = refl
place_none c (d ∷ cs) j h l =
    let first = ascending-first c (d ∷ cs) h 0 (omega arith) in
    rw (le-ltb d j (omega arith)) (place_none d cs j (ascending_tail c (d ∷ cs) h) (omega arith))

-- a column below j stands before the place of j
pub place-past : (cs : List ℕ) (j k : ℕ) → ascending cs ≡ true → k < length cs → get_or cs k 0 < j → k < place_in cs j
unfolding place_in
place-past [] j k h l q = absurd (omega arith)
place-past (c ∷ cs) j zero h l q = rw (lt-ltb c j q) (omega arith)
place-past (c ∷ cs) j (suc k) h l q =
    let first = ascending-first c cs h k (omega arith) in
    rw (lt-ltb c j (omega arith)) (omega (arith, place-past cs j k (ascending_tail c cs h) (omega arith) q))

-- a column not below j stands at the place of j or after it
pub place-before : (cs : List ℕ) (j k : ℕ) → ascending cs ≡ true → k < length cs → j ≤ get_or cs k 0 → place_in cs j ≤ k
unfolding place_in
place-before [] j k h l q = absurd (omega arith)
place-before (c ∷ cs) j zero h l q = rw (le-ltb c j q) (omega (arith, place_none c cs j h q))
place-before (c ∷ cs) j (suc k) h l q = go (ltb c j) refl (place-before cs j k (ascending_tail c cs h) (omega arith) q)
  where
    go : (b : Bool) → ltb c j ≡ b → place_in cs j ≤ k → length (keep b c (filter (λ x. ltb x j) cs)) ≤ suc k
    go true e ih = omega arith
    go false e ih = omega arith

-- a column that is there stands at its place
pub is_in-place : (cs : List ℕ) (j : ℕ) → ascending cs ≡ true → is_in cs j ≡ true → (place_in cs j < length cs) × (get_or cs (place_in cs j) 0 ≡ j)
unfolding place_in
is_in-place [] j h m = absurd (true≢false (sym m))
is_in-place (c ∷ cs) j h m = go (or_cases (eqb j c) (is_in cs j) m) (is_in-place cs j (ascending_tail c cs h))
  where
    go : (eqb j c ≡ true) ⊎ (is_in cs j ≡ true) → (is_in cs j ≡ true → (place_in cs j < length cs) × (get_or cs (place_in cs j) 0 ≡ j))
        → (place_in (c ∷ cs) j < suc (length cs)) × (get_or (c ∷ cs) (place_in (c ∷ cs) j) 0 ≡ j)
    go (inl e) ih =
        let q : j ≡ c = eqb-true j c e in
        rw (le-ltb c j (omega arith), place_none c cs j h (omega arith)) (omega arith)
    go (inr e) ih =
        let i = ih e in
        let first = ascending-first c cs h (place_in cs j) i.0 in
        rw (lt-ltb c j (omega arith)) (omega arith)

-- the first column stands nowhere else
pub first-once : (c : ℕ) (cs : List ℕ) → ascending (c ∷ cs) ≡ true → is_in cs c ≡ false
first-once c cs h = go (is_in cs c) refl
  where
    go : (b : Bool) → is_in cs c ≡ b → b ≡ false
    go true e =
        let i = is_in-place cs c (ascending_tail c cs h) e in
        absurd (omega (arith, ascending-first c cs h _ i.0))
    go false e = refl

-- a column that does not stand at its place is not there
pub place-missing : (cs : List ℕ) (j p : ℕ) → ascending cs ≡ true → p ≡ place_in cs j → (p < length cs → get_or cs p 0 ≢ j) → is_in cs j ≡ false
place-missing cs j p h e ne = go (is_in cs j) refl
  where
    go : (b : Bool) → is_in cs j ≡ b → b ≡ false
    go true m =
        let i = is_in-place cs j h m in
        absurd (ne (omega arith) (ap (λ (q : ℕ). get_or cs q 0) e ∙ i.1))
    go false m = refl

-- the columns below i + 1 are those below i, and i
pub place_more : (cs : List ℕ) (i : ℕ) → ascending cs ≡ true → place_in cs (i + 1) ≡ place_in cs i + bit (is_in cs i)
unfolding place_in
place_more [] i h = omega arith
place_more (c ∷ cs) i h = go (same_or i c) (place_more cs i (ascending_tail c cs h))
  where
    go : (i ≡ c) ⊎ (i ≢ c) → place_in cs (i + 1) ≡ place_in cs i + bit (is_in cs i)
        → length (keep (ltb c (i + 1)) c (filter (λ x. ltb x (i + 1)) cs)) ≡ length (keep (ltb c i) c (filter (λ x. ltb x i) cs)) + bit (eqb i c || is_in cs i)
    go (inl e) ih =
        let out : is_in cs i ≡ false = subst (λ (v : ℕ). is_in cs v ≡ false) (sym e) (first-once c cs h) in
        let none : place_in cs i + bit false ≡ 0 = omega (arith, place_none c cs i h (omega arith)) in
        let more : place_in cs (i + 1) ≡ 0 = (rw out at ih) ∙ none in
        rw (lt-ltb c (i + 1) (omega arith), le-ltb c i (omega arith), eq-eqb i c e) (omega (arith, more, none))
    go (inr d) ih = other (ltb c i) refl
      where
        other : (t : Bool) → ltb c i ≡ t → length (keep (ltb c (i + 1)) c (filter (λ x. ltb x (i + 1)) cs)) ≡ length (keep (ltb c i) c (filter (λ x. ltb x i) cs)) + bit (eqb i c || is_in cs i)
        other true e = rw (lt-ltb c (i + 1) (omega (arith, ltb-true c i e)), e, ne_eqb i c d) (omega (arith, ih))
        other false e = rw (le-ltb c (i + 1) (omega (arith, ltb-false c i e)), e, ne_eqb i c d) ih

-- the columns before place k do not hold the column at k
pub before-place : (cs : List ℕ) (k : ℕ) → ascending cs ≡ true → k < length cs → is_in (take k cs) (get_or cs k 0) ≡ false
before-place [] k h l = absurd (omega arith)
before-place (c ∷ cs) zero h l = refl
before-place (c ∷ cs) (suc k) h l =
    let first = ascending-first c cs h k (omega arith) in
    rw (ne_eqb (get_or cs k 0) c (λ q. omega arith)) (before-place cs k (ascending_tail c cs h) (omega arith))

pub is_in-get : (cs : List ℕ) (k : ℕ) → k < length cs → is_in cs (get_or cs k 0) ≡ true
is_in-get [] k l = absurd (omega arith)
is_in-get (c ∷ cs) zero l = rw (eq-eqb c c refl)
is_in-get (c ∷ cs) (suc k) l = rw (is_in-get cs k (omega arith)) (or_true (eqb (get_or cs k 0) c))

no_length : (xs : List ℕ) → length xs ≡ 0 → xs ≡ []
no_length [] h = refl
no_length (x ∷ xs) h = absurd (omega arith)

-- the columns before the place of j are those below it
pub take-place : (cs : List ℕ) (j : ℕ) → ascending cs ≡ true → take (place_in cs j) cs ≡ filter (λ x. ltb x j) cs
unfolding place_in
take-place [] j h = refl
take-place (c ∷ cs) j h = go (ltb c j) refl (take-place cs j (ascending_tail c cs h))
  where
    go : (b : Bool) → ltb c j ≡ b → take (place_in cs j) cs ≡ filter (λ x. ltb x j) cs → take (length (keep b c (filter (λ x. ltb x j) cs))) (c ∷ cs) ≡ keep b c (filter (λ x. ltb x j) cs)
    go true e ih = ap (λ (ds : List ℕ). c ∷ ds) ih
    go false e ih =
        let none : filter (λ x. ltb x j) cs ≡ [] = no_length _ (place_none c cs j h (ltb-false c j e)) in
        rw none

-- ---- the value beside a column

-- the value beside the column at place k
pub lookup-get : (cs : List ℕ) (vs : List ℤ) (k : ℕ) → ascending cs ≡ true → k < length cs → lookup (get_or cs k 0) cs vs ≡ get_or vs k (pos 0)
unfolding lookup
lookup-get [] vs k h l = absurd (omega arith)
lookup-get (c ∷ cs) [] k h l = refl
lookup-get (c ∷ cs) (v ∷ vs) zero h l = rw (eq-eqb c c refl)
lookup-get (c ∷ cs) (v ∷ vs) (suc k) h l =
    let first = ascending-first c cs h k (omega arith) in
    rw (ne_eqb (get_or cs k 0) c (λ q. omega arith)) (lookup-get cs vs k (ascending_tail c cs h) (omega arith))

-- the values beside the columns up to place k
pub lookup-next : (cs : List ℕ) (vs : List ℤ) (k r : ℕ) → ascending cs ≡ true → length cs ≡ length vs → k < length cs
    → lookup r (take (suc k) cs) (take (suc k) vs) ≡ cond (eqb r (get_or cs k 0)) (get_or vs k (pos 0)) (lookup r (take k cs) (take k vs))
unfolding lookup
lookup-next [] vs k r h e l = absurd (omega arith)
lookup-next (c ∷ cs) [] k r h e l = absurd (omega arith)
lookup-next (c ∷ cs) (v ∷ vs) zero r h e l = refl
lookup-next (c ∷ cs) (v ∷ vs) (suc k) r h e l = rw (lookup-next cs vs k r (ascending_tail c cs h) (omega arith) (omega arith)) (go (same_or r c))
  where
    go : (r ≡ c) ⊎ (r ≢ c) → cond (eqb r c) v (cond (eqb r (get_or cs k 0)) (get_or vs k (pos 0)) (lookup r (take k cs) (take k vs)))
        ≡ cond (eqb r (get_or cs k 0)) (get_or vs k (pos 0)) (cond (eqb r c) v (lookup r (take k cs) (take k vs)))
    go (inl q) =
        let first = ascending-first c cs h k (omega arith) in
        rw (eq-eqb r c q, ne_eqb r (get_or cs k 0) (λ z. omega arith))
    go (inr d) = rw (ne_eqb r c d)
