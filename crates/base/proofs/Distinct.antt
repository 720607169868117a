-- Lists in which no number stands twice.
use mathlib.Core.Path.{◌≡◌, refl, ap}
use mathlib.Core.Logic.{⊎_elim}
use mathlib.Core.Bool.{true, false, not}
use mathlib.Core.List.{List, [], ◌∷◌}
use Prim.Native.Nat.{ℕ, zero, suc, ◌≤◌, ◌<◌}
use native.Mathlib.Omega.{arith}
use lib.ListN.{length, get_or}
use borrow.Author.Tests.{eq-eqb, ne_eqb, not-true}
use Rattle.base.specs.Lists.{is_in, distinct, position_of}
use Rattle.base.proofs.Booleans.{and_left, and_right, clash, same_or}
use Rattle.base.proofs.Lists.{in_get}
use Rattle.base.proofs.Counts.{count, out_count}

-- no number stands twice
pub distinct-count : (xs : List ℕ) (v : ℕ) → distinct xs ≡ true → count v xs ≤ 1
distinct-count [] v h = omega arith
distinct-count (x ∷ xs) v h =
    let new : is_in xs x ≡ false = not-true (is_in xs x) (and_left (not (is_in xs x)) (distinct xs) h) in
    ⊎_elim
    (λ e. rw (eq-eqb v x e) (omega (arith, out_count v xs (rw e new))))
    (λ d. rw (ne_eqb v x d) (omega (arith, distinct-count xs v (and_right (not (is_in xs x)) (distinct xs) h))))
    (same_or v x)

-- in a distinct list each place is the position of its number
pub position_get : (xs : List ℕ) (k : ℕ) → distinct xs ≡ true → k < length xs → position_of xs (get_or xs k 0) ≡ k
unfolding position_of
position_get [] k h l = absurd (omega arith)
position_get (x ∷ xs) zero h l = rw (eq-eqb x x refl)
position_get (x ∷ xs) (suc k) h l =
    let new : is_in xs x ≡ false = not-true (is_in xs x) (and_left (not (is_in xs x)) (distinct xs) h) in
    rw (ne_eqb x (get_or xs k 0) (λ e. clash (rw e (in_get xs k (omega arith))) new)) (ap suc (position_get xs k (and_right (not (is_in xs x)) (distinct xs) h) (omega arith)))
