-- Rows touched one after the other: none, one, and one list after another.
use mathlib.Core.Path.{◌≡◌, refl, sym, ap, ◌∙◌, subst}
use mathlib.Core.Logic.{◌⊎◌, inl, inr, ◌≢◌}
use mathlib.Core.Bool.{Bool, true, false, not, ◌&&◌, ◌||◌, cond, true≢false}
use mathlib.Core.List.{List, [], ◌∷◌, ◌++◌, map, append_assoc, append-nil}
use Prim.Native.Nat.{ℕ, ◌+◌, ◌≤◌, ◌<◌}
use native.Mathlib.Omega.{arith}
use native.Mathlib.Numerals.{add-one}
use lib.Dec.{eqb, ltb}
use lib.ListN.{length, get_or, take, drop, set, replicate, length-set, length-replicate, get_or-replicate, take-append-drop, get_or-eq_default}
use lib.Seq.{take-suc, get_or-set_same, get_or-set_other}
use borrow.Author.Tests.{eqb-true, eqb-false, eq-eqb, ne_eqb, ltb-true, ltb-false, lt-ltb, le-ltb}
use Rattle.base.specs.Lists.{any, is_in, concat}
use Rattle.base.proofs.Booleans.{and_false, clash, is_false}
use Rattle.base.proofs.Lists.{is_in-append, any_of, any_ext}
use Rattle.matrix.specs.Limits.{max_rows}
use Rattle.apart.specs.Code.Marks.{closed, touched_by, around, clashes, Stamped, Touched, Most, Below, Opened, Widened}
use Rattle.apart.specs.declared.marks.Marks.{Marks}
use Rattle.matrix.specs.Matrix.{Matrix}

-- ---- lists

any_append : (p : ℕ → Bool) (xs ys : List ℕ) → any p (xs ++ ys) ≡ any p xs || any p ys
any_append p [] ys = refl
any_append p (x ∷ xs) ys = go (p x) (any_append p xs ys)
  where
    go : (b : Bool) → any p (xs ++ ys) ≡ any p xs || any p ys → b || any p (xs ++ ys) ≡ (b || any p xs) || any p ys
    go true e = refl
    go false e = e

-- ---- touched

-- no row is marked at first
pub unmarked : (k : ℕ) → k ≡ max_rows → Most 0 (replicate k 0)
unmarked k e = record { long = length-replicate k 0 ∙ e; most = λ v. zeros v (ltb v k) refl }
  where
    zeros : (v : ℕ) (b : Bool) → ltb v k ≡ b → get_or (replicate k 0) v 0 ≤ 0
    zeros v true l = omega (arith, get_or-replicate {A = ℕ} k v 0 0 (ltb-true v k l))
    zeros v false l = omega (arith, get_or-eq_default {A = ℕ} (replicate k 0) 0 {n = v} (omega (arith, length-replicate {A = ℕ} k 0, ltb-false v k l)))

module _ (low mine : ℕ) where
  pub touched_none : (marks : List ℕ) → Touched low mine [] marks marks true
  touched_none marks = record { free = refl; stamped = λ _. record { long = refl; is = λ v. refl } }

  -- a row with another child's mark
  pub touched_clash : (marks marks' : List ℕ) (z : ℕ) → low < get_or marks z 0 → get_or marks z 0 ≢ mine → Touched low mine (z ∷ []) marks marks' false
  unfolding clashes
  touched_clash marks marks' z l d = record { free = rw (lt-ltb low (get_or marks z 0) l, ne_eqb (get_or marks z 0) mine d); stamped = λ e. absurd (true≢false (sym e)) }

  -- a row without
  pub touched-free : (marks : List ℕ) (z : ℕ) → z < length marks → (get_or marks z 0 ≤ low) ⊎ (get_or marks z 0 ≡ mine) → Touched low mine (z ∷ []) marks (set marks z mine) true
  unfolding clashes
  touched-free marks z l h = record { free = ap (λ (b : Bool). not (b || false)) (sym (free h)); stamped = λ _. record { long = length-set marks z mine; is = λ v. go v (eqb v z) refl } }
    where
      free : (get_or marks z 0 ≤ low) ⊎ (get_or marks z 0 ≡ mine) → ltb low (get_or marks z 0) && not (eqb (get_or marks z 0) mine) ≡ false
      free (inl a) = rw (le-ltb low (get_or marks z 0) a)
      free (inr a) = rw (eq-eqb (get_or marks z 0) mine a) (and_false (ltb low (get_or marks z 0)))

      go : (v : ℕ) (b : Bool) → eqb v z ≡ b → get_or (set marks z mine) v 0 ≡ cond (eqb v z || false) mine (get_or marks v 0)
      go v true e = rw e (subst (λ (y : ℕ). get_or (set marks z mine) y 0 ≡ mine) (sym (eqb-true v z e)) (get_or-set_same marks z mine 0 l))
      go v false e = rw e (get_or-set_other marks z v mine 0 (eqb-false v z e))

  -- ys after xs
  module _ (xs ys a b c : List ℕ) (r : Bool) (first : Touched low mine xs a b true) (then : Touched low mine ys b c r) where
    none : any (clashes low mine a) xs ≡ false
    none = go (any (clashes low mine a) xs) first.free
      where
        go : (t : Bool) → true ≡ not t → t ≡ false
        go true e = e
        go false e = refl

    -- a row that was touched has no other child's mark, before or after
    same : (v : ℕ) → clashes low mine b v ≡ clashes low mine a v
    unfolding clashes
    same v = go (is_in xs v) refl
      where
        go : (t : Bool) → is_in xs v ≡ t → ltb low (get_or b v 0) && not (eqb (get_or b v 0) mine) ≡ ltb low (get_or a v 0) && not (eqb (get_or a v 0) mine)
        go true e =
            rw ((first.stamped refl).is v, e, eq-eqb mine mine refl)
            (and_false (ltb low mine) ∙ sym (is_false (λ (h : clashes low mine a v ≡ true). clash (any_of (clashes low mine a) xs v e h) none)))
        go false e = rw ((first.stamped refl).is v, e)

    pub touched-append : Touched low mine (xs ++ ys) a c r
    touched-append = record {
      free = then.free ∙ ap not (any_ext (clashes low mine b) (clashes low mine a) ys (λ v _. same v) ∙ sym (any_append (clashes low mine a) xs ys ∙ rw none));
      stamped = λ e. both (then.stamped e);
    }
      where
        both : Stamped mine ys b c → Stamped mine (xs ++ ys) a c
        both s = record {
          long = s.long ∙ (first.stamped refl).long;
          is = λ v. s.is v ∙ rw ((first.stamped refl).is v, is_in-append xs ys v) (either (is_in xs v) (is_in ys v) (get_or a v 0));
        }
          where
            either : (p q : Bool) (m : ℕ) → cond q mine (cond p mine m) ≡ cond (p || q) mine m
            either true true m = refl
            either true false m = refl
            either false q m = refl

  -- what clashes in a part clashes in the whole
  pub touched-part : (xs ys a b : List ℕ) → Touched low mine xs a b false → Touched low mine (xs ++ ys) a b false
  touched-part xs ys a b t = record { free = go (any (clashes low mine a) xs) refl t.free; stamped = t' }
    where
      t' : false ≡ true → Stamped mine (xs ++ ys) a b
      t' e = absurd (true≢false (sym e))

      go : (c : Bool) → any (clashes low mine a) xs ≡ c → false ≡ not c → false ≡ not (any (clashes low mine a) (xs ++ ys))
      go true e h = sym (rw (any_append (clashes low mine a) xs ys, e))
      go false e h = absurd (true≢false (sym h))

-- ---- a list, element by element

concat-map-append : (f : ℕ → List ℕ) (xs ys : List ℕ) → concat (map f (xs ++ ys)) ≡ concat (map f xs) ++ concat (map f ys)
concat-map-append f [] ys = refl
concat-map-append f (x ∷ xs) ys = ap (λ (l : List ℕ). f x ++ l) (concat-map-append f xs ys) ∙ sym (append_assoc (f x) (concat (map f xs)) (concat (map f ys)))

module _ (low mine : ℕ) (xs : List ℕ) (j : ℕ) (here : j < length xs) where
  next : take (j + 1) xs ≡ take j xs ++ (get_or xs j 0 ∷ [])
  next = rw (add-one j, take-suc xs j 0 here)

  pub touched-next : (a b c : List ℕ) (r : Bool) → Touched low mine (take j xs) a b true → Touched low mine (get_or xs j 0 ∷ []) b c r → Touched low mine (take (j + 1) xs) a c r
  touched-next a b c r p q = rw next (touched-append low mine (take j xs) (get_or xs j 0 ∷ []) a b c r p q)

  pub touched-stops : (a b c : List ℕ) → Touched low mine (take j xs) a b true → Touched low mine (get_or xs j 0 ∷ []) b c false → Touched low mine xs a c false
  touched-stops a b c p q =
      subst (λ (l : List ℕ). Touched low mine l a c false) (take-append-drop (j + 1) xs) (touched-part low mine (take (j + 1) xs) (drop (j + 1) xs) a c (touched-next a b c false p q))

  -- the same of lists that the elements stand for
  module _ (f : ℕ → List ℕ) where
    all-next : concat (map f (take (j + 1) xs)) ≡ concat (map f (take j xs)) ++ f (get_or xs j 0)
    all-next =
        ap (λ (l : List ℕ). concat (map f l)) next ∙ concat-map-append f (take j xs) (get_or xs j 0 ∷ [])
        ∙ ap (λ (l : List ℕ). concat (map f (take j xs)) ++ l) (append-nil (f (get_or xs j 0)))

    pub touched-all-next : (a b c : List ℕ) (r : Bool) → Touched low mine (concat (map f (take j xs))) a b true → Touched low mine (f (get_or xs j 0)) b c r
        → Touched low mine (concat (map f (take (j + 1) xs))) a c r
    touched-all-next a b c r p q = rw all-next (touched-append low mine (concat (map f (take j xs))) (f (get_or xs j 0)) a b c r p q)

    pub touched-all-stops : (a b c : List ℕ) → Touched low mine (concat (map f (take j xs))) a b true → Touched low mine (f (get_or xs j 0)) b c false
        → Touched low mine (concat (map f xs)) a c false
    touched-all-stops a b c p q =
        subst (λ (l : List ℕ). Touched low mine l a c false) (sym (concat-map-append f (take (j + 1) xs) (drop (j + 1) xs)) ∙ ap (λ (l : List ℕ). concat (map f l)) (take-append-drop (j + 1) xs))
        (touched-part low mine (concat (map f (take (j + 1) xs))) (concat (map f (drop (j + 1) xs))) a c (touched-all-next a b c false p q))

-- ---- rows that have touched theirs

-- rows stamped twice, the second time all of the first and more
pub stamped-over : (mine : ℕ) (xs ys a b c : List ℕ) → ((v : ℕ) → is_in xs v ≡ true → is_in ys v ≡ true) → Stamped mine xs a b → Stamped mine ys b c → Stamped mine ys a c
stamped-over mine xs ys a b c more s t = record { long = t.long ∙ s.long; is = λ v. t.is v ∙ go v (is_in xs v) refl (is_in ys v) refl }
  where
    go : (v : ℕ) (p : Bool) → is_in xs v ≡ p → (q : Bool) → is_in ys v ≡ q → cond q mine (get_or b v 0) ≡ cond q mine (get_or a v 0)
    go v p e true f = refl
    go v true e false f = absurd (true≢false (sym (more v e) ∙ f))
    go v false e false f = s.is v ∙ rw e

-- marks up to mine are no other child's
pub none_above : (mine : ℕ) (marks zs : List ℕ) → ((v : ℕ) → get_or marks v 0 ≤ mine) → not (any (clashes mine mine marks) zs) ≡ true
unfolding clashes
none_above mine marks zs h = ap not (any_ext (clashes mine mine marks) (λ z. false) zs (λ v _. rw (le-ltb mine (get_or marks v 0) (h v))) ∙ never zs)
  where
    never : (xs : List ℕ) → any (λ (x : ℕ). false) xs ≡ false
    never [] = refl
    never (x ∷ xs) = never xs

module _ {m : Matrix} {mine : ℕ} where
  -- none at first
  pub opened-none : (s : Marks) → Below mine s.done → Opened m mine s
  opened-none s f = record { long = f.long; most = λ v. omega (arith, f.below v); opened = λ v e. absurd (omega (arith, f.below v)) }

  -- more rows are stamped
  pub opened-kept : {given given' done zs : List ℕ} → Opened m mine (record { given = given; done = done }) → Stamped mine zs given given' → Opened m mine (record { given = given'; done = done })
  opened-kept {zs = zs} o s = record { long = o.long; most = o.most; opened = λ v e z h. s.is z ∙ same (is_in zs z) (o.opened v e z h) }
    where
      same : (b : Bool) {k : ℕ} → k ≡ mine → cond b mine k ≡ mine
      same true e = refl
      same false e = e

  -- rows touched, whatever is done
  pub widened-kept : {low : ℕ} {given given' done zs : List ℕ} {r : Bool} → Opened m mine (record { given = given; done = done }) → Touched low mine zs given given' r
      → Widened m low mine zs (record { given = given; done = done }) (record { given = given'; done = done }) r
  widened-kept o t = record { touched = t; after = λ e. opened-kept o (t.stamped e) }

  -- a row has touched its rows before
  pub touched-before : (low : ℕ) (s : Marks) (u : ℕ) → Opened m mine s → get_or s.done u 0 ≡ mine → Touched low mine (closed m u) s.given s.given true
  unfolding clashes
  touched-before low s u o e = record {
    free = sym (ap not (any_ext (clashes low mine s.given) (λ z. false) zs (λ z h. rw (eq-eqb (get_or s.given z 0) mine (o.opened u e z h)) (and_false (ltb low (get_or s.given z 0)))) ∙ never zs));
    stamped = λ _. record { long = refl; is = λ v. same v (is_in zs v) refl };
  }
    where
      zs : List ℕ
      zs = closed m u

      never : (xs : List ℕ) → any (λ (x : ℕ). false) xs ≡ false
      never [] = refl
      never (x ∷ xs) = never xs

      same : (v : ℕ) (b : Bool) → is_in (closed m u) v ≡ b → get_or s.given v 0 ≡ cond b mine (get_or s.given v 0)
      same v true h = o.opened u e v h
      same v false h = refl

  -- now it has
  pub opened_more : (low : ℕ) (given given' done : List ℕ) (u : ℕ) (r : Bool) → u < length done → Opened m mine (record { given = given; done = done }) → Touched low mine (closed m u) given given' r
      → Widened m low mine (closed m u) (record { given = given; done = done }) (record { given = given'; done = set done u mine }) r
  opened_more low given given' done u r l o t = record {
    touched = t;
    after = λ e.
        let s = t.stamped e in
        let kept = opened-kept o s in
        record { long = length-set done u mine ∙ o.long; most = λ v. most v (eqb v u) refl; opened = λ v h z i. now kept s v (eqb v u) refl h z i };
  }
    where
      most : (v : ℕ) (b : Bool) → eqb v u ≡ b → get_or (set done u mine) v 0 ≤ mine
      most v true e = let q = eqb-true v u e in omega (arith, subst (λ (y : ℕ). get_or (set done u mine) y 0 ≡ mine) (sym q) (get_or-set_same done u mine 0 l))
      most v false e = omega (arith, get_or-set_other done u v mine 0 (eqb-false v u e), o.most v)

      now : Opened m mine (record { given = given'; done = done }) → Stamped mine (closed m u) given given' → (v : ℕ) (b : Bool) → eqb v u ≡ b → get_or (set done u mine) v 0 ≡ mine
          → (z : ℕ) → is_in (closed m v) z ≡ true → get_or given' z 0 ≡ mine
      now kept s v true e h z i =
          let here : is_in (closed m u) z ≡ true = subst (λ (y : ℕ). is_in (closed m y) z ≡ true) (eqb-true v u e) i in
          s.is z ∙ rw here
      now kept s v false e h z i = kept.opened v (sym (get_or-set_other done u v mine 0 (eqb-false v u e)) ∙ h) z i

-- rows some of which touched theirs, list after list
pub around-two : (m : Matrix) (rows : List ℕ) → concat (map (λ u. touched_by m (closed m u)) rows) ≡ around m 2 rows
unfolding around
around-two m [] = refl
around-two m (u ∷ rows) =
    ap (λ (l : List ℕ). touched_by m (closed m u) ++ l) (around-two m rows)
    ∙ sym (concat-map-append (closed m) (closed m u) (touched_by m rows))
