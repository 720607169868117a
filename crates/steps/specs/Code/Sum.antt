-- The code's checked sum.
use Rattle.std.specs.Prelude.{Bool, true, false, ℤ, ◌+ℤ◌, Option, Some, None}
use Rattle.base.specs.Integers.{fits64}

abbrev pub sum_if : (fitting : Bool) → ℤ → Option ℤ
sum_if true z = Some z
sum_if false z = None

-- a + b, if it is a signed number of 64 bits
abbrev pub sum_of : (a b : ℤ) → Option ℤ
sum_of a b = sum_if (fits64 (a +ℤ b)) (a +ℤ b)
