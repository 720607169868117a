-- One number and its bytes: the number of some bytes by their places, and each the other's inverse.
use mathlib.Core.Path.{◌≡◌, refl, sym, ap, ◌∙◌, fun_ext}
use mathlib.Core.List.{List, [], ◌∷◌, ◌++◌}
use Prim.Native.Nat.{ℕ, zero, suc, ◌+◌, ◌*◌, ◌/◌, ◌%◌, ◌^◌, ◌≤◌, ◌<◌}
use native.Mathlib.Nat.{add-zero, zero-add, add-suc, suc-add, mul_comm, mul_assoc, pow-suc}
use native.Mathlib.Omega.{arith}
use lib.ListN.{length, take, drop, get_or, length-take, length-drop}
use lib.Seq.{drop-cons, drop-drop, take-add}
use Rattle.words.specs.LittleEndian.{number, bytes_of}
pub use Rattle.words.specs.Code.Sizes.{length-bytes_of, length-signed_bytes_of}
use Rattle.words.specs.Code.Places.{four_at, eight_at}

-- the number of the `width` bytes that a function gives
abbrev pub sum_of : (ℕ → ℕ) → (width : ℕ) → ℕ
sum_of f zero = 0
sum_of f (suc width) = f 0 + 256 * sum_of (λ i. f (suc i)) width

-- the number of the bytes from a place on
pub number_at : (width : ℕ) (bytes : List ℕ) (at : ℕ) → at + width ≤ length bytes → number (take width (drop at bytes)) ≡ sum_of (λ i. get_or bytes (at + i) 0) width
unfolding number
number_at zero bytes at h = refl
number_at (suc width) bytes at h =
    let inside : at < length bytes = omega arith in
    let later : number (take width (drop (suc at) bytes)) ≡ sum_of (λ i. get_or bytes (suc at + i) 0) width = number_at width bytes (suc at) (omega arith) in
    rw (drop-cons bytes at 0 inside, add-zero at, later) (ap (λ (f : ℕ → ℕ). get_or bytes at 0 + 256 * sum_of f width) (fun_ext (λ i. ap (λ (k : ℕ). get_or bytes k 0) (suc-add at i ∙ sym (add-suc at i)))))

-- ---- the bytes of a number

-- the number of a number's bytes, if it fits them
pub number-bytes_of : (width v : ℕ) → v < 256 ^ width → number (bytes_of width v) ≡ v
unfolding number bytes_of
number-bytes_of zero v h = omega arith
number-bytes_of (suc width) v h =
    let p : v < 256 ^ width * 256 = rw pow-suc at h in
    let q : v / 256 < 256 ^ width = omega arith in
    omega (arith, number-bytes_of width (v / 256) q)

-- ---- a low and a high part

-- the number of a low part and a high part
pub number_append : (xs ys : List ℕ) → number (xs ++ ys) ≡ number xs + 256 ^ length xs * number ys
unfolding number
number_append [] ys = omega arith
number_append (x ∷ xs) ys = rw (number_append xs ys, pow-suc, mul_comm (256 ^ length xs) 256, mul_assoc) (omega arith)

-- the bytes of a low part and a high part
pub bytes_of-append : (a b low high : ℕ) → low < 256 ^ a → bytes_of (a + b) (low + 256 ^ a * high) ≡ bytes_of a low ++ bytes_of b high
unfolding bytes_of
bytes_of-append zero b low high h =
    let none : low + 1 * high ≡ high = omega arith in
    rw (zero-add b, none)
bytes_of-append (suc a) b low high h =
    let small : low < 256 ^ a * 256 = rw pow-suc at h in
    let above : 256 ^ a * 256 * high ≡ 256 * (256 ^ a * high) = rw (mul_comm (256 ^ a) 256, mul_assoc) in
    let byte : (low + 256 * (256 ^ a * high)) % 256 ≡ low % 256 = omega arith in
    let rest : (low + 256 * (256 ^ a * high)) / 256 ≡ low / 256 + 256 ^ a * high = omega arith in
    rw (suc-add a b, pow-suc, above, byte, rest, bytes_of-append a b (low / 256) high (omega arith))

-- ---- four bytes and eight

-- the number at a place
pub four-at : (bytes : List ℕ) (at : ℕ) → at + 4 ≤ length bytes → four_at bytes at ≡ number (take 4 (drop at bytes))
four-at bytes at h = omega (arith, rw (add-zero at) at (number_at 4 bytes at h))

-- .. of eight bytes
pub eight-at : (bytes : List ℕ) (at : ℕ) → at + 8 ≤ length bytes → eight_at bytes at ≡ number (take 8 (drop at bytes))
eight-at bytes at h =
    let whole : number (take 8 (drop at bytes)) ≡ number (take 4 (drop at bytes)) + 256 ^ length (take 4 (drop at bytes)) * number (take 4 (drop 4 (drop at bytes))) =
    rw (take-add 4 4 (drop at bytes)) (number_append (take 4 (drop at bytes)) (take 4 (drop 4 (drop at bytes)))) in
    let size : length (take 4 (drop at bytes)) ≡ 4 = simp (length-take, length-drop) (omega arith) in
    omega (arith, rw (size, drop-drop 4 at bytes) at whole, four-at bytes at (omega arith), four-at bytes (at + 4) (omega arith))

-- the four bytes by the powers of 256
pub four_bytes : (v : ℕ) → bytes_of 4 v ≡ v % 256 ∷ v / 256 % 256 ∷ v / 65536 % 256 ∷ v / 16777216 % 256 ∷ []
unfolding bytes_of
four_bytes v =
    let square : v / 256 / 256 ≡ v / 65536 = omega arith in
    let cube : v / 65536 / 256 ≡ v / 16777216 = omega arith in
    rw (square, cube)

-- the eight bytes are those of the low and of the high half
pub eight_bytes : (v : ℕ) → bytes_of 8 v ≡ bytes_of 4 (v % 4294967296) ++ bytes_of 4 (v / 4294967296)
eight_bytes v =
    let halves : v % 4294967296 + 256 ^ 4 * (v / 4294967296) ≡ v = omega arith in
    rw halves at (bytes_of-append 4 4 (v % 4294967296) (v / 4294967296) (omega arith))
