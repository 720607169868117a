-- Whole numbers: sums, limits and 64 bits.
use Rattle.std.specs.Prelude.{Bool, false, ℕ, zero, suc, ◌^◌, eqb, ltb, leb, ℤ, pos, negsuc, nat_abs, ◌+ℤ◌}

-- the sum of f 0 .. f (n - 1)
unfoldable pub sumℤ : (ℕ → ℤ) → ℕ → ℤ
sumℤ f zero = pos 0
sumℤ f (suc n) = sumℤ f n +ℤ f n

-- at most the limit either side of 0
unfoldable pub within : (limit : ℕ) → ℤ → Bool
within limit z = leb (nat_abs z) limit

unfoldable pub same : ℤ → ℤ → Bool
same (pos a) (pos b) = eqb a b
same (pos a) (negsuc b) = false
same (negsuc a) (pos b) = false
same (negsuc a) (negsuc b) = eqb a b

-- a signed number of 64 bits
unfoldable pub fits64 : ℤ → Bool
fits64 (pos n) = ltb n (2 ^ 63)
fits64 (negsuc n) = ltb n (2 ^ 63)
