-- Where a number stands in a list.
use mathlib.Core.Path.{◌≡◌, refl, sym, ap}
use mathlib.Core.Logic.{◌⊎◌, inl, inr, ◌≢◌}
use mathlib.Core.Bool.{Bool, true, false, cond, true≢false}
use mathlib.Core.List.{List, [], ◌∷◌}
use Prim.Native.Nat.{ℕ, zero, suc, ◌≤◌, ◌<◌}
use native.Mathlib.Omega.{arith}
use lib.Dec.{eqb}
use lib.ListN.{length, get_or}
use borrow.Author.Tests.{eqb-true, eqb-false, eq-eqb, ne_eqb}
use Rattle.base.specs.Lists.{is_in, position_of}
use Rattle.base.proofs.Booleans.{or_cases, or_left_false, or_right_false, clash}

-- the position of a number that stands in the list
pub position_at : (xs : List ℕ) (v : ℕ) → is_in xs v ≡ true → (position_of xs v < length xs) × (get_or xs (position_of xs v) 0 ≡ v)
unfolding position_of
position_at [] v h = absurd (true≢false (sym h))
position_at (x ∷ xs) v h = go (eqb x v) refl (position_at xs v)
  where
    rest : eqb x v ≡ false → is_in xs v ≡ true
    rest f = by (or_cases (eqb v x) (is_in xs v) h)
      where
        by : (eqb v x ≡ true) ⊎ (is_in xs v ≡ true) → is_in xs v ≡ true
        by (inl e) = absurd (eqb-false x v f (sym (eqb-true v x e)))
        by (inr e) = e

    go : (b : Bool) → eqb x v ≡ b → (is_in xs v ≡ true → (position_of xs v < length xs) × (get_or xs (position_of xs v) 0 ≡ v))
        → (cond (eqb x v) 0 (suc (position_of xs v)) < suc (length xs)) × (get_or (x ∷ xs) (cond (eqb x v) 0 (suc (position_of xs v))) 0 ≡ v)
    go true e ih = rw e (omega arith, eqb-true x v e)
    go false e ih = let i = ih (rest e) in rw e (omega (arith, i.0), i.1)

-- .. and of one that does not
pub position_none : (xs : List ℕ) (v : ℕ) → is_in xs v ≡ false → position_of xs v ≡ length xs
unfolding position_of
position_none [] v h = refl
position_none (x ∷ xs) v h =
    rw (ne_eqb x v (λ e. clash (eq-eqb v x (sym e)) (or_left_false (eqb v x) (is_in xs v) h))) (ap suc (position_none xs v (or_right_false (eqb v x) (is_in xs v) h)))

pub position_most : (xs : List ℕ) (v : ℕ) → position_of xs v ≤ length xs
unfolding position_of
position_most [] v = omega arith
position_most (x ∷ xs) v = go (eqb x v) (position_most xs v)
  where
    go : (b : Bool) → position_of xs v ≤ length xs → cond b 0 (suc (position_of xs v)) ≤ suc (length xs)
    go true h = omega arith
    go false h = omega (arith, h)

-- the first place where it stands, or none
pub position_first : (xs : List ℕ) (v k : ℕ) → k < length xs → get_or xs k 0 ≡ v → ((i : ℕ) → i < k → get_or xs i 0 ≢ v) → position_of xs v ≡ k
unfolding position_of
position_first [] v k l e h = absurd (omega arith)
position_first (x ∷ xs) v zero l e h = rw (eq-eqb x v e)
position_first (x ∷ xs) v (suc k) l e h =
    rw (ne_eqb x v (h 0 (omega arith))) (ap suc (position_first xs v k (omega arith) e (λ i m q. h (suc i) (omega arith) q)))

pub position_nowhere : (xs : List ℕ) (v : ℕ) → ((i : ℕ) → i < length xs → get_or xs i 0 ≢ v) → position_of xs v ≡ length xs
unfolding position_of
position_nowhere [] v h = refl
position_nowhere (x ∷ xs) v h = rw (ne_eqb x v (h 0 (omega arith))) (ap suc (position_nowhere xs v (λ i m q. h (suc i) (omega arith) q)))

-- a number stands in the list exactly where its position is one
pub position_in : (xs : List ℕ) (v : ℕ) → position_of xs v < length xs → is_in xs v ≡ true
position_in xs v l = go (is_in xs v) refl
  where
    go : (b : Bool) → is_in xs v ≡ b → b ≡ true
    go true e = refl
    go false e = absurd (omega (arith, position_none xs v e))
