-- A number has as many bytes as its width says: laws of `Word`.
use Rattle.std.proofs.Common.{◌≡◌, refl, ap, ℕ, zero, suc, ◌/◌, ℤ, length}
use Rattle.words.specs.LittleEndian.{bytes_of, of_signed, signed_bytes_of}

pub length-bytes_of : (width v : ℕ) → length (bytes_of width v) ≡ width
unfolding bytes_of
length-bytes_of zero v = refl
length-bytes_of (suc width) v = ap suc (length-bytes_of width (v / 256))

-- .. of a signed number
pub length-signed_bytes_of : (width : ℕ) (z : ℤ) → length (signed_bytes_of width z) ≡ width
length-signed_bytes_of width z = length-bytes_of width (of_signed width z)
