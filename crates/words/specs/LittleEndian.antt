-- Lists of numbers as lists of bytes: each number takes `width` bytes, the low byte first; signed numbers stand in
-- two's complement.
use Rattle.std.specs.Prelude.{cond, List, [], ◌∷◌, ◌++◌, map, ℕ, zero, suc, ◌+◌, ◌*◌, ◌-◌, ◌/◌, ◌%◌, ◌^◌, ltb, ℤ, pos, negsuc, length, take, drop}
use Rattle.base.specs.Lists.{concat}

-- ---- one number

-- the number of some bytes, the low byte first
unfoldable pub number : List ℕ → ℕ
number [] = 0
number (b ∷ bs) = b + 256 * number bs

-- the bytes of a number, the low byte first
unfoldable pub bytes_of : (width : ℕ) → ℕ → List ℕ
bytes_of zero v = []
bytes_of (suc width) v = v % 256 ∷ bytes_of width (v / 256)

-- two's complement: the upper half of the numbers of `width` bytes stands for those below 0
unfoldable pub to_signed : (width : ℕ) → ℕ → ℤ
to_signed width v = cond (ltb (2 * v) (256 ^ width)) (pos v) (negsuc (256 ^ width - suc v))

unfoldable pub of_signed : (width : ℕ) → ℤ → ℕ
of_signed width (pos v) = v
of_signed width (negsuc v) = 256 ^ width - suc v

-- the signed number of `width` bytes, and the bytes of a signed number
abbrev pub signed_number : (width : ℕ) → List ℕ → ℤ
signed_number width bs = to_signed width (number bs)

abbrev pub signed_bytes_of : (width : ℕ) → ℤ → List ℕ
signed_bytes_of width z = bytes_of width (of_signed width z)

-- ---- a list of numbers

-- the first `count` blocks of `width` bytes
unfoldable pub blocks : (width count : ℕ) → List ℕ → List (List ℕ)
blocks width zero bytes = []
blocks width (suc count) bytes = take width bytes ∷ blocks width count (drop width bytes)

-- the whole blocks: a shorter trailing part is none
abbrev pub whole_blocks : (width : ℕ) → List ℕ → List (List ℕ)
whole_blocks width bytes = blocks width (length bytes / width) bytes

-- the numbers that bytes hold, where f reads one, and the bytes of numbers, where f gives those of one
module _ {A : Type 0} where
  abbrev pub decoded : (f : List ℕ → A) (width : ℕ) → List ℕ → List A
  decoded f width bytes = map f (whole_blocks width bytes)

  abbrev pub encoded : (f : A → List ℕ) → List A → List ℕ
  encoded f xs = concat (map f xs)

-- .. of unsigned numbers
abbrev pub unsigned : (width : ℕ) → List ℕ → List ℕ
unsigned = decoded number

abbrev pub unsigned_bytes : (width : ℕ) → List ℕ → List ℕ
unsigned_bytes width = encoded (bytes_of width)

-- .. of signed numbers
abbrev pub signed : (width : ℕ) → List ℕ → List ℤ
signed width = decoded (signed_number width) width

abbrev pub signed_bytes : (width : ℕ) → List ℤ → List ℕ
signed_bytes width = encoded (signed_bytes_of width)

-- ---- a list that another is copied over

module _ {ℓ} {A : Type ℓ} where
  -- the new elements from the front on, and past them what stood there
  abbrev pub stored : (new old : List A) → List A
  stored new old = new ++ drop (length new) old
