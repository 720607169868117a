-- The two codes of one number, unsigned and in two's complement, and what follows for lists of them.
use mathlib.Core.Path.{◌≡◌, ap, ◌∙◌}
use mathlib.Core.List.{List, ◌++◌}
use Prim.Native.Nat.{ℕ, zero, suc, ◌*◌, ◌-◌, ◌/◌, ◌^◌, ◌<◌}
use native.Mathlib.Nat.{pow-suc}
use native.Mathlib.Omega.{arith}
use lib.IntN.{ℤ, pos, negsuc}
use lib.Signed.{mag}
use borrow.Author.Tests.{lt-ltb, le-ltb}
use Rattle.base.proofs.Each.{Each}
use Rattle.words.specs.LittleEndian.{number, bytes_of, to_signed, of_signed, signed_number, signed_bytes_of, unsigned, signed, unsigned_bytes, signed_bytes}
use Rattle.words.proofs.Digits.{length-bytes_of, length-signed_bytes_of, number-bytes_of}
use Rattle.words.proofs.RoundTrip.{Code, decoded_append, decoded_encoded}

-- ---- unsigned

-- what `width` bytes hold
abbrev pub Holds : (width : ℕ) → ℕ → Type 0
Holds width v = v < 256 ^ width

-- the code of unsigned numbers
pub unsigned_code : (width : ℕ) → 0 < width → Code (bytes_of width) number width (Holds width)
unsigned_code width some = record {
  some = some;
  size = length-bytes_of width;
  back = number-bytes_of width;
}

-- ---- two's complement

-- what `width` bytes hold
abbrev pub HoldsSigned : (width : ℕ) → ℤ → Type 0
HoldsSigned width z = 2 * mag z < 256 ^ width

-- the numbers of some bytes are even in number
even : (width : ℕ) → 0 < width → 256 ^ width ≡ 2 * (256 ^ width / 2)
even zero h = absurd (omega arith)
even (suc width) h = rw pow-suc (omega arith)

-- from a signed number and back
pub to_signed-of_signed : (width : ℕ) (z : ℤ) → 0 < width → HoldsSigned width z → to_signed width (of_signed width z) ≡ z
unfolding to_signed of_signed
to_signed-of_signed width (pos v) some h = rw (lt-ltb (2 * v) (256 ^ width) h)
to_signed-of_signed width (negsuc v) some h = rw (le-ltb (2 * (256 ^ width - suc v)) (256 ^ width) (omega (arith, even width some))) (ap negsuc (omega arith))

of_signed-holds : (width : ℕ) (z : ℤ) → 0 < width → HoldsSigned width z → Holds width (of_signed width z)
unfolding of_signed
of_signed-holds width (pos v) some h = omega arith
of_signed-holds width (negsuc v) some h = omega arith

-- the code of signed numbers
pub signed_code : (width : ℕ) → 0 < width → Code (signed_bytes_of width) (signed_number width) width (HoldsSigned width)
signed_code width some = record {
  some = some;
  size = length-signed_bytes_of width;
  back = λ z h. ap (to_signed width) (number-bytes_of width (of_signed width z) (of_signed-holds width z some h)) ∙ to_signed-of_signed width z some h;
}

-- ---- lists

module _ (width : ℕ) (some : 0 < width) where
  -- numbers are read back from their bytes
  pub unsigned_back : (vs : List ℕ) → Each (Holds width) vs → unsigned width (unsigned_bytes width vs) ≡ vs
  unsigned_back = decoded_encoded (bytes_of width) number width (Holds width) (unsigned_code width some)

  -- .. signed numbers
  pub signed_back : (zs : List ℤ) → Each (HoldsSigned width) zs → signed width (signed_bytes width zs) ≡ zs
  signed_back = decoded_encoded (signed_bytes_of width) (signed_number width) width (HoldsSigned width) (signed_code width some)

  -- .. with anything after them
  pub unsigned-append : (vs : List ℕ) → Each (Holds width) vs → (rest : List ℕ) → unsigned width (unsigned_bytes width vs ++ rest) ≡ vs ++ unsigned width rest
  unsigned-append = decoded_append (bytes_of width) number width (Holds width) (unsigned_code width some)

  pub signed-append : (zs : List ℤ) → Each (HoldsSigned width) zs → (rest : List ℕ) → signed width (signed_bytes width zs ++ rest) ≡ zs ++ signed width rest
  signed-append = decoded_append (signed_bytes_of width) (signed_number width) width (HoldsSigned width) (signed_code width some)
