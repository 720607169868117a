-- Laws of tests.
use mathlib.Core.Path.{◌≡◌, refl, sym, ◌∙◌}
use mathlib.Core.Logic.{◌⊎◌, inl, inr, ◌≢◌}
use mathlib.Core.Bool.{Bool, true, false, not, ◌&&◌, ◌||◌, true≢false}
use mathlib.Core.List.{List, [], ◌∷◌}
use Prim.Native.Nat.{ℕ, zero, suc, ◌≤◌, min}
use native.Mathlib.Omega.{arith}
use lib.Dec.{eqb, leb}
use lib.ListN.{get_or}
use borrow.Author.Tests.{eqb-true, eqb-false, eq-eqb, ne_eqb, leb-true, le-leb, not-true, not-false}

pub and_false : (b : Bool) → b && false ≡ false
and_false true = refl
and_false false = refl

pub and_left : (a b : Bool) → a && b ≡ true → a ≡ true
and_left true b h = refl
and_left false b h = h

pub and_right : (a b : Bool) → a && b ≡ true → b ≡ true
and_right true b h = h
and_right false b h = absurd (true≢false (sym h))

pub or_true : (b : Bool) → b || true ≡ true
or_true true = refl
or_true false = refl

pub or_cases : (a b : Bool) → a || b ≡ true → (a ≡ true) ⊎ (b ≡ true)
or_cases true b h = inl refl
or_cases false b h = inr h

pub not-both : (b : Bool) → b ≡ true → not b ≡ true → ⊥
not-both true p q = true≢false (sym q)
not-both false p q = true≢false (sym p)

pub or_left_false : (a b : Bool) → a || b ≡ false → a ≡ false
or_left_false true b h = absurd (true≢false h)
or_left_false false b h = refl

pub or_right_false : (a b : Bool) → a || b ≡ false → b ≡ false
or_right_false true b h = absurd (true≢false h)
or_right_false false b h = h

pub or_mono : (a b c d : Bool) → (a ≡ true → c ≡ true) → (b ≡ true → d ≡ true) → a || b ≡ true → c || d ≡ true
or_mono true b c d f g h = rw (f refl) refl
or_mono false b c d f g h = rw (g h) (or_true c)

pub clash : {b : Bool} → b ≡ true → b ≡ false → ⊥
clash p q = true≢false (sym p ∙ q)

pub same_or : (v w : ℕ) → (v ≡ w) ⊎ (v ≢ w)
same_or v w = go (eqb v w) refl
  where
    go : (b : Bool) → eqb v w ≡ b → (v ≡ w) ⊎ (v ≢ w)
    go true e = inl (eqb-true v w e)
    go false e = inr (eqb-false v w e)

-- a && b && c ..
abbrev pub conj : Bool → List Bool → Bool
conj a [] = a
conj a (b ∷ bs) = conj (a && b) bs

pub conj_first : (a : Bool) (bs : List Bool) → conj a bs ≡ true → a ≡ true
conj_first a [] h = h
conj_first a (b ∷ bs) h = and_left a b (conj_first (a && b) bs h)

pub conj_at : (a : Bool) (bs : List Bool) → conj a bs ≡ true → (k : ℕ) → get_or bs k true ≡ true
conj_at a [] h k = refl
conj_at a (b ∷ bs) h zero = and_right a b (conj_first (a && b) bs h)
conj_at a (b ∷ bs) h (suc k) = conj_at (a && b) bs h k

pub or_false : (b : Bool) → b || false ≡ b
or_false true = refl
or_false false = refl

-- a test that cannot hold
pub is_false : {b : Bool} → (b ≡ true → ⊥) → b ≡ false
is_false {b = true} h = absurd (h refl)
is_false {b = false} h = refl

-- one test that fails
pub conj_fails : (a : Bool) (bs : List Bool) (k : ℕ) → get_or bs k true ≡ false → conj a bs ≡ false
conj_fails a bs k h = go (conj a bs) refl
  where
    go : (b : Bool) → conj a bs ≡ b → b ≡ false
    go true e = absurd (clash (conj_at a bs e k) h)
    go false e = refl

pub and_cross : (a b c d : Bool) → a && b && (c && d) ≡ a && c && (b && d)
and_cross true true c d = refl
and_cross true false c d = sym (and_false c)
and_cross false b c d = refl

-- a call's test `if !t`, where t is what the call tests: it fails, or holds
pub fails : {t b : Bool} → t ≡ b → not t ≡ true → b ≡ false
fails {t} e h = sym e ∙ not-true t h

pub holds : {t b : Bool} → t ≡ b → not t ≡ false → b ≡ true
holds {t} e h = sym e ∙ not-false t h

-- two tests that follow from each other
pub same_test : (a b : Bool) → (a ≡ true → b ≡ true) → (b ≡ true → a ≡ true) → a ≡ b
same_test true b f g = sym (f refl)
same_test false true f g = g refl
same_test false false f g = refl

-- tests that follow from each other are the same
pub both_ways : (a b : Bool) → (a ≡ true → b ≡ true) → (b ≡ true → a ≡ true) → a ≡ b
both_ways true true p q = refl
both_ways true false p q = sym (p refl)
both_ways false true p q = q refl
both_ways false false p q = refl

-- equality of numbers, tested either way round
pub eqb_sym : (a b : ℕ) → eqb a b ≡ eqb b a
eqb_sym a b = go (eqb a b) refl
  where
    go : (t : Bool) → eqb a b ≡ t → t ≡ eqb b a
    go true e = sym (eq-eqb b a (sym (eqb-true a b e)))
    go false e = sym (ne_eqb b a (λ n. eqb-false a b e (sym n)))

-- a number is at most the less of two, where it is at most the first
pub leb-min : (n a b : ℕ) → n ≤ a → leb n (min a b) ≡ leb n b
leb-min n a b h = both_ways (leb n (min a b)) (leb n b) (λ t. le-leb n b (omega (arith, leb-true n (min a b) t))) (λ t. le-leb n (min a b) (omega (arith, leb-true n b t)))
