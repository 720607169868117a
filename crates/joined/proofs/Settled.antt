-- The tenant of each place, place by place; distinct places below n.
use mathlib.Core.Path.{◌≡◌, refl, sym, ap, ◌∙◌}
use mathlib.Core.Logic.{⊎_elim, ◌≢◌}
use mathlib.Core.Bool.{Bool, true, false, not, ◌||◌, ◌&&◌}
use mathlib.Core.List.{List, [], ◌∷◌, ◌++◌}
use Prim.Native.Nat.{ℕ, suc, ◌+◌, ◌≤◌, ◌<◌}
use native.Mathlib.Numerals.{add-one}
use native.Mathlib.Omega.{arith}
use lib.Dec.{eqb, ltb, leb}
use lib.ListN.{length, get_or, take, set, length-append}
use lib.Seq.{take-suc, take_all, get_or-take, length-take-le, get_or-set_same, get_or-set_other}
use borrow.Author.Tests.{eq-eqb, ne_eqb, lt-ltb, le-ltb, le-leb, lt-leb, not-true}
use Rattle.base.specs.Lists.{filter, keep, all, is_in, bit, distinct, position_of}
use Rattle.base.proofs.Booleans.{and_left, and_right, or_true, is_false, clash, same_or}
use Rattle.base.proofs.Distinct.{position_get}
use Rattle.base.proofs.Lists.{filter-append, is_in-append, all_append, all-get, get_in}
use Rattle.joined.specs.Code.Rows.{tenant_of}

-- ---- how many pass a test

module _ (n : ℕ) (xs : List ℕ) (k : ℕ) (l : k < length xs) where
  one : (b : Bool) → leb n (get_or xs k 0) ≡ b → length (filter (leb n) (take (k + 1) xs)) ≡ length (filter (leb n) (take k xs)) + bit b
  one b e =
      rw (add-one k, take-suc xs k 0 l, filter-append (leb n) (take k xs) (get_or xs k 0 ∷ []), length-append (filter (leb n) (take k xs)) (filter (leb n) (get_or xs k 0 ∷ [])), e)
      (ap (λ (c : ℕ). length (filter (leb n) (take k xs)) + c) (kept b))
    where
      kept : (b : Bool) → length (keep b (get_or xs k 0) []) ≡ bit b
      kept true = refl
      kept false = refl

  pub count-one : n ≤ get_or xs k 0 → length (filter (leb n) (take (k + 1) xs)) ≡ length (filter (leb n) (take k xs)) + 1
  count-one h = one true (le-leb n (get_or xs k 0) h)

  pub count_none : get_or xs k 0 < n → length (filter (leb n) (take (k + 1) xs)) ≡ length (filter (leb n) (take k xs))
  count_none h = one false (lt-leb n (get_or xs k 0) h) ∙ (let z : length (filter (leb n) (take k xs)) + 0 ≡ length (filter (leb n) (take k xs)) = omega arith in z)

pub count-all : (n : ℕ) (xs : List ℕ) (k : ℕ) → length xs ≤ k → length (filter (leb n) (take k xs)) ≡ length (filter (leb n) xs)
count-all n xs k l = rw (take_all k xs l)

-- ---- one number more

position_append : (xs ys : List ℕ) (v : ℕ) → is_in xs v ≡ true → position_of (xs ++ ys) v ≡ position_of xs v
unfolding position_of
position_append [] ys v h = absurd (clash h refl)
position_append (x ∷ xs) ys v h = ⊎_elim (λ e. rw (eq-eqb x v e)) (λ d. rw (ne_eqb x v d) (ap suc (position_append xs ys v (rw (ne_eqb v x (λ q. d (sym q))) at h)))) (same_or x v)

position_last : (xs : List ℕ) (v : ℕ) → is_in xs v ≡ false → position_of (xs ++ v ∷ []) v ≡ length xs
unfolding position_of
position_last [] v h = rw (eq-eqb v v refl)
position_last (x ∷ xs) v h =
    let d : x ≢ v = λ e. clash {b = eqb v x || is_in xs v} (rw (eq-eqb v x (sym e))) h in
    rw (ne_eqb x v d) (ap suc (position_last xs v (rw (ne_eqb v x (λ q. d (sym q))) at h)))

distinct-last : (xs : List ℕ) (v : ℕ) → distinct xs ≡ true → is_in xs v ≡ false → distinct (xs ++ v ∷ []) ≡ true
distinct-last [] v h f = refl
distinct-last (x ∷ xs) v h f =
    let d : v ≢ x = λ e. clash {b = eqb v x || is_in xs v} (rw (eq-eqb v x e)) f in
    let new : is_in xs x ≡ false = not-true (is_in xs x) (and_left (not (is_in xs x)) (distinct xs) h) in
    rw (is_in-append xs (v ∷ []) x, new, ne_eqb x v (λ e. d (sym e)), distinct-last xs v (and_right (not (is_in xs x)) (distinct xs) h) (rw (ne_eqb v x d) at f))

module _ (n : ℕ) (xs : List ℕ) where
  -- the first k numbers are distinct and below n, and have their tenants
  pub record Settled (k : ℕ) (tenants : List ℕ) : Type 0 where
    pub far : k ≤ length xs
    pub apart : distinct (take k xs) ≡ true
    pub low : all (λ p. ltb p n) (take k xs) ≡ true
    pub is : (c : ℕ) → get_or tenants c 0 ≡ tenant_of (take k xs) c

  pub settled_none : (tenants : List ℕ) → ((c : ℕ) → get_or tenants c 0 ≡ 0) → Settled 0 tenants
  unfolding tenant_of
  settled_none tenants h = record { far = omega arith; apart = refl; low = refl; is = h }

  module _ {k : ℕ} {tenants : List ℕ} (s : Settled k tenants) (l : k < length xs) where
    abbrev here : ℕ
    here = get_or xs k 0

    next : take (k + 1) xs ≡ take k xs ++ here ∷ []
    next = rw (add-one k) (take-suc xs k 0 l)

    pub free : get_or tenants here 0 ≡ 0 → is_in (take k xs) here ≡ false
    free e = is_false (λ h. taken h (sym (s.is here) ∙ e))
      where
        taken : is_in (take k xs) here ≡ true → tenant_of (take k xs) here ≡ 0 → ⊥
        taken h q = unfold tenant_of in let z : suc (position_of (take k xs) here) ≡ 0 = rw h at q in omega (arith, z)

    pub settled_next : here < n → here < length tenants → get_or tenants here 0 ≡ 0 → Settled (k + 1) (set tenants here (k + 1))
    settled_next low fits e = record {
      far = omega arith;
      apart = rw next (distinct-last (take k xs) here s.apart (free e));
      low = rw next (all_append (λ p. ltb p n) (take k xs) (here ∷ []) ∙ rw (s.low, lt-ltb here n low));
      is = λ c. rw next (⊎_elim (own c) (other c) (same_or c here));
    }
      where
        own : (c : ℕ) → c ≡ here → get_or (set tenants here (k + 1)) c 0 ≡ tenant_of (take k xs ++ here ∷ []) c
        own c q = unfold tenant_of in
            rw q (rw (get_or-set_same tenants here (k + 1) 0 fits, is_in-append (take k xs) (here ∷ []) here, eq-eqb here here refl, or_true (is_in (take k xs) here), position_last (take k xs) here (free e), length-take-le k xs (omega arith)) (omega arith))

        other : (c : ℕ) → c ≢ here → get_or (set tenants here (k + 1)) c 0 ≡ tenant_of (take k xs ++ here ∷ []) c
        other c d = get_or-set_other tenants here c (k + 1) 0 d ∙ s.is c ∙ sym (same (is_in (take k xs) c) refl)
          where
            same : (b : Bool) → is_in (take k xs) c ≡ b → tenant_of (take k xs ++ here ∷ []) c ≡ tenant_of (take k xs) c
            same true h = unfold tenant_of in rw (is_in-append (take k xs) (here ∷ []) c, h, position_append (take k xs) (here ∷ []) c h)
            same false h = unfold tenant_of in rw (is_in-append (take k xs) (here ∷ []) c, h, ne_eqb c here d)

    -- a number that is not below n, and one that stood before
    pub not_low : n ≤ here → distinct xs && all (λ p. ltb p n) xs ≡ false
    not_low h = is_false (λ e. clash (all-get (λ p. ltb p n) xs k 0 (and_right (distinct xs) (all (λ p. ltb p n) xs) e) l) (le-ltb here n h))

    pub not-distinct : get_or tenants here 0 ≢ 0 → distinct xs && all (λ p. ltb p n) xs ≡ false
    not-distinct d = is_false (λ e. again (and_left (distinct xs) (all (λ p. ltb p n) xs) e) (is_in (take k xs) here) refl)
      where
        again : distinct xs ≡ true → (b : Bool) → is_in (take k xs) here ≡ b → ⊥
        again h true q =
            let (j, m, f) = get_in (take k xs) here q in
            let size : length (take k xs) ≡ k = length-take-le k xs (omega arith) in
            let at : get_or xs j 0 ≡ here = sym (get_or-take k xs j 0 (omega arith)) ∙ f in
            let back : j ≡ k = sym (position_get xs j h (omega arith)) ∙ ap (position_of xs) at ∙ position_get xs k h l in
            omega arith
        again h false q = unfold tenant_of in d (s.is here ∙ rw q)

  -- all of them
  module _ {k : ℕ} {tenants : List ℕ} (s : Settled k tenants) (e : length xs ≤ k) where
    whole : take k xs ≡ xs
    whole = take_all k xs e

    pub all-distinct : distinct xs && all (λ p. ltb p n) xs ≡ true
    all-distinct = let d : distinct xs ≡ true = rw whole at s.apart in let a : all (λ p. ltb p n) xs ≡ true = rw whole at s.low in rw (d, a)

    pub all_tenants : (c : ℕ) → get_or tenants c 0 ≡ tenant_of xs c
    all_tenants c = s.is c ∙ rw whole
