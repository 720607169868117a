-- A test of all numbers below k.
use mathlib.Core.Path.{◌≡◌, refl}
use mathlib.Core.Logic.{◌⊎◌, inl, inr, ◌≢◌}
use mathlib.Core.Bool.{Bool, true, false, ◌&&◌}
use Prim.Native.Nat.{ℕ, zero, suc, ◌+◌, ◌<◌}
use native.Mathlib.Numerals.{add-one}
use native.Mathlib.Omega.{arith}
use Rattle.base.proofs.Booleans.{same_or}
use Rattle.machine.specs.Code.Tests.{all_below}

-- none are there
pub below_none : (f : ℕ → Bool) → all_below f 0 ≡ true
unfolding all_below
below_none f = refl

-- one more passes
pub below_more : (f : ℕ → Bool) (k : ℕ) → f k ≡ true → all_below f k ≡ true → all_below f (k + 1) ≡ true
unfolding all_below
below_more f k e h = rw (add-one k, e, h) refl

none : (b : Bool) → b && false ≡ false
none true = refl
none false = refl

-- one fails
pub below_fail : (f : ℕ → Bool) (k n : ℕ) → k < n → f k ≡ false → all_below f n ≡ false
unfolding all_below
below_fail f k zero l e = absurd (omega arith)
below_fail f k (suc n) l e = go (same_or k n) (λ d. below_fail f k n (omega arith) e)
  where
    go : (k ≡ n) ⊎ (k ≢ n) → (k ≢ n → all_below f n ≡ false) → f n && all_below f n ≡ false
    go (inl q) h = rw (← q, e) refl
    go (inr d) h = rw (h d) (none (f n))
