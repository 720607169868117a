-- The control number of a list of forces (document 02, Q-13).
use Rattle.std.specs.Prelude.{ℕ, suc, ◌-◌, ◌%◌, ◌^◌, List, length, ℤ, pos, negsuc, ◌*ℤ◌, slice_index_or}
use Rattle.base.specs.Integers.{sumℤ}

-- "modulo 4,294,967,296"
abbrev pub modulus : ℕ
modulus = 2 ^ 32

-- what a whole number leaves by the modulus, below it: "negative forces counted as their remainder"
unfoldable pub remainder : ℤ → ℕ
remainder (pos n) = n % modulus
remainder (negsuc n) = modulus - suc (n % modulus)

-- "(number + 1) × force"
unfoldable pub weighed : (forces : List ℤ) (number : ℕ) → ℤ
weighed forces number = pos (suc number) *ℤ slice_index_or forces number (pos 0)

-- "the sum over freedoms, in original order, of (number + 1) × force, kept modulo 4,294,967,296"
unfoldable pub control_number : List ℤ → ℕ
control_number forces = remainder (sumℤ (weighed forces) (length forces))
