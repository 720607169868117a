-- The last digit of a number, and those before it.
use mathlib.Core.Path.{◌≡◌, ap, ◌∙◌}
use mathlib.Core.List.{[], ◌∷◌, ◌++◌}
use Prim.Native.Nat.{ℕ, suc, ◌+◌, ◌/◌, ◌%◌, ◌≤◌, ◌<◌}
use native.Mathlib.Omega.{arith}
use lib.IntN.{ℤ, pos, negsuc}
use lib.ListN.{length, length-append}
use Rattle.market.specs.Text.{natural, integer, line_of}
use Rattle.market.proofs.Decimal.{decimal-one, decimal_more, decimal-few}

-- one digit
pub natural_digit : (x : ℕ) → x < 10 → natural x ≡ (48 + x) ∷ []
natural_digit = decimal-one 9

-- more digits
pub natural-digits : (x : ℕ) → 10 ≤ x → x < 10000000000 → natural x ≡ natural (x / 10) ++ (48 + x % 10) ∷ []
natural-digits = decimal_more 9

-- how many they are
pub length_digit : (x : ℕ) → x < 10 → length (natural x) ≡ 1
length_digit x h = ap length (natural_digit x h)

pub length_digits : (x : ℕ) → 10 ≤ x → x < 10000000000 → length (natural x) ≡ length (natural (x / 10)) + 1
length_digits x t h = ap length (natural-digits x t h) ∙ length-append (natural (x / 10)) ((48 + x % 10) ∷ [])

-- at most ten
pub natural-few : (n : ℕ) → length (natural n) ≤ 10
natural-few n = decimal-few 10 n

-- and eleven bytes with a sign
pub integer-few : (z : ℤ) → length (integer z) ≤ 11
integer-few (pos n) = omega (arith, natural-few n)
integer-few (negsuc n) = omega (arith, natural-few (suc n))

-- the bytes of a line
pub length-line : (r c : ℕ) (v : ℤ) → length (line_of r c v) ≡ length (natural r) + length (natural c) + length (integer v) + 3
length-line r c v = simp length-append (omega arith)
