-- "Site and office want one number to read out before they compare lists": what control numbers say of lists.
use Rattle.std.specs.Prelude.{◌≡◌, ℕ, suc, ◌+◌, ◌*◌, ◌%◌, ◌<◌, true, List, [], ◌∷◌, ◌++◌, length, ℤ, pos, ◌+ℤ◌, ◌-ℤ◌, ◌*ℤ◌, slice_index_or, slice_set, unsigned_abs}
use Rattle.base.specs.Lists.{all, sum_below}
use Rattle.base.specs.Integers.{fits64}
use Rattle.words.specs.LittleEndian.{signed, signed_bytes}
use Rattle.control.specs.ControlNumber.{modulus, remainder, control_number}

-- "two lists added place by place", as far as both go
unfoldable pub place_by_place : (xs ys : List ℤ) → List ℤ
place_by_place [] ys = []
place_by_place (x ∷ xs) [] = []
place_by_place (x ∷ xs) (y ∷ ys) = (x +ℤ y) ∷ place_by_place xs ys

-- "(number + 1) × the change", where the force with that number becomes v
unfoldable pub weighed_change : (xs : List ℤ) (number : ℕ) (v : ℤ) → ℤ
weighed_change xs number v = pos (suc number) *ℤ (v -ℤ slice_index_or xs number (pos 0))

-- "a multiple of the modulus", on either side of 0
abbrev pub Multiple : ℤ → Type 0
Multiple z = unsigned_abs z % modulus ≡ 0

pub record ControlNumbers : Type 0 where
  -- "the empty list's is 0"
  pub empty : control_number [] ≡ 0
  -- it has 32 bits
  pub small : (xs : List ℤ) → control_number xs < modulus
  -- "negative forces counted as their remainder": it is that of the forces' remainders
  pub counted : (xs : List ℤ) → control_number xs ≡ sum_below (λ i. suc i * remainder (slice_index_or xs i (pos 0))) (length xs) % modulus
  -- "The control number of two lists added place by place .. is the sum of the two control numbers modulo the same"
  pub adds : (xs ys : List ℤ) → length xs ≡ length ys → control_number (place_by_place xs ys) ≡ (control_number xs + control_number ys) % modulus
  -- ".. where each sum fits 64 bits": then the bytes of a list are read as that list, with or without a shorter part
  -- past them
  pub in_bytes : (xs : List ℤ) → all fits64 xs ≡ true → (rest : List ℕ) → length rest < 8 → signed 8 (signed_bytes 8 xs ++ rest) ≡ xs
  -- "One changed force changes it unless (number + 1) × the change is a multiple of the modulus"; and then it does not
  pub changes : (xs : List ℤ) (number : ℕ) (v : ℤ) → number < length xs → control_number (slice_set xs number v) ≡ control_number xs → Multiple (weighed_change xs number v)
  pub keeps : (xs : List ℤ) (number : ℕ) (v : ℤ) → number < length xs → Multiple (weighed_change xs number v) → control_number (slice_set xs number v) ≡ control_number xs
