-- The bytes of numbers in two parts, and the bytes of the numbers that bytes hold.
use mathlib.Core.Path.{◌≡◌, refl, sym, ap, ap₂, ◌∙◌}
use mathlib.Core.Bool.{Bool, true, false, cond}
use mathlib.Core.List.{List, [], ◌∷◌, ◌++◌, map, map-append}
use Prim.Native.Nat.{ℕ, zero, suc, ◌+◌, ◌*◌, ◌-◌, ◌/◌, ◌%◌, ◌^◌, ◌≤◌, ◌<◌}
use native.Mathlib.Nat.{zero-add, suc-add, pow-suc, mul-zero, mul-suc}
use native.Mathlib.Omega.{arith}
use lib.Dec.{ltb}
use lib.IntN.{pos, negsuc}
use lib.ListN.{length, get_or, take, drop, length-take, length-drop}
use lib.Seq.{drop-drop, take-add, length-take-le}
use Rattle.base.proofs.Each.{Each, each_take, each-drop}
use Rattle.base.proofs.Lists.{concat-append}
use Rattle.words.specs.LittleEndian.{number, bytes_of, to_signed, of_signed, signed_number, signed_bytes_of, blocks, unsigned, unsigned_bytes, signed, signed_bytes}
use Rattle.words.specs.Code.Places.{four_at}
use Rattle.words.proofs.Digits.{length-bytes_of, four-at}
use Rattle.words.proofs.Blocks.{decoded_at, encoded, length_encoded}

-- ---- the bytes of numbers

pub bytes_append : (xs ys : List ℕ) → unsigned_bytes 4 (xs ++ ys) ≡ unsigned_bytes 4 xs ++ unsigned_bytes 4 ys
bytes_append xs ys = rw (map-append (bytes_of 4) xs ys) (concat-append (map (bytes_of 4) xs) (map (bytes_of 4) ys))

pub length_bytes : (xs : List ℕ) → length (unsigned_bytes 4 xs) ≡ 4 * length xs
length_bytes xs = length_encoded (bytes_of 4) 4 (length-bytes_of 4) xs ∙ omega arith

-- ---- one number of bytes

abbrev pub IsByte : ℕ → Type 0
IsByte b = b < 256

-- its bytes are those
bytes_of-number : (bs : List ℕ) → Each IsByte bs → bytes_of (length bs) (number bs) ≡ bs
unfolding bytes_of number
bytes_of-number [] h = refl
bytes_of-number (b ∷ bs) h =
    let first : (b + 256 * number bs) % 256 ≡ b = omega (arith, h.0) in
    let rest : (b + 256 * number bs) / 256 ≡ number bs = omega (arith, h.0) in
    rw (first, rest, bytes_of-number bs h.1)

-- it is small
pub number_small : (k : ℕ) (bs : List ℕ) → length bs ≤ k → Each IsByte bs → number bs < 256 ^ k
unfolding number
number_small zero [] l h = omega arith
number_small zero (b ∷ bs) l h = absurd (omega arith)
number_small (suc k) [] l h = rw (pow-suc 256 k) (omega (arith, number_small k [] (omega arith) tt))
number_small (suc k) (b ∷ bs) l h = rw (pow-suc 256 k) (omega (arith, h.0, number_small k bs (omega arith) h.1))

-- ---- the numbers of bytes

-- the first blocks, and those from a place on
front : (k m : ℕ) (bytes : List ℕ) → k ≤ m → take k (map number (blocks 4 m bytes)) ≡ map number (blocks 4 k bytes)
unfolding blocks
front zero m bytes l = refl
front (suc k) zero bytes l = absurd (omega arith)
front (suc k) (suc m) bytes l = ap (λ (vs : List ℕ). number (take 4 bytes) ∷ vs) (front k m (drop 4 bytes) (omega arith))

later : (i m : ℕ) (bytes : List ℕ) → drop i (map number (blocks 4 (i + m) bytes)) ≡ map number (blocks 4 m (drop (4 * i) bytes))
unfolding blocks
later zero m bytes = rw (zero-add m)
later (suc i) m bytes =
    let next : 4 + 4 * i ≡ 4 * suc i = omega arith in
    rw (suc-add i m) (later i m (drop 4 bytes) ∙ ap (λ (bs : List ℕ). map number (blocks 4 m bs)) (drop-drop (4 * i) 4 bytes ∙ ap (λ (j : ℕ). drop j bytes) next))

-- f writes one number, and g reads it: the bytes of the first blocks' numbers are those that stand there
module _ {A : Type 0} (f : A → List ℕ) (g : List ℕ → A) (width : ℕ) (same : (bs : List ℕ) → length bs ≡ width → Each IsByte bs → f (g bs) ≡ bs) where
  pub blocks-back : (k : ℕ) (bytes : List ℕ) → width * k ≤ length bytes → Each IsByte bytes → encoded f (map g (blocks width k bytes)) ≡ take (width * k) bytes
  unfolding blocks
  blocks-back zero bytes l h = ap (λ (j : ℕ). take j bytes) (sym (mul-zero width))
  blocks-back (suc k) bytes l h =
      let next : width * suc k ≡ width + width * k = mul-suc width k ∙ omega arith in
      let size : length (take width bytes) ≡ width = length-take-le width bytes (omega arith) in
      let one : f (g (take width bytes)) ≡ take width bytes = same (take width bytes) size (each_take IsByte width bytes h) in
      let rest = blocks-back k (drop width bytes) (rw (length-drop width bytes) (omega arith)) (each-drop IsByte width bytes h) in
      ap₂ (λ (x y : List ℕ). x ++ y) one rest ∙ sym (take-add width (width * k) bytes) ∙ ap (λ (j : ℕ). take j bytes) (sym next)

-- numbers of four bytes
four_same : (bs : List ℕ) → length bs ≡ 4 → Each IsByte bs → bytes_of 4 (number bs) ≡ bs
four_same bs e h = ap (λ (w : ℕ). bytes_of w (number bs)) (sym e) ∙ bytes_of-number bs h

-- signed numbers of eight: all that such bytes hold
of_signed-to_signed : (v : ℕ) → v < 256 ^ 8 → of_signed 8 (to_signed 8 v) ≡ v
unfolding of_signed to_signed
of_signed-to_signed v h = go (ltb (2 * v) (256 ^ 8)) refl
  where
    go : (b : Bool) → ltb (2 * v) (256 ^ 8) ≡ b → of_signed 8 (cond b (pos v) (negsuc (256 ^ 8 - suc v))) ≡ v
    go true e = refl
    go false e = omega arith

eight_same : (bs : List ℕ) → length bs ≡ 8 → Each IsByte bs → signed_bytes_of 8 (signed_number 8 bs) ≡ bs
eight_same bs e h = ap (bytes_of 8) (of_signed-to_signed (number bs) (number_small 8 bs (omega arith) h)) ∙ ap (λ (w : ℕ). bytes_of w (number bs)) (sym e) ∙ bytes_of-number bs h

-- the bytes of the signed numbers that bytes hold
pub signed-bytes : (bytes : List ℕ) → Each IsByte bytes → signed_bytes 8 (signed 8 bytes) ≡ take (8 * (length bytes / 8)) bytes
signed-bytes bytes h = blocks-back (signed_bytes_of 8) (signed_number 8) 8 eight_same (length bytes / 8) bytes (omega arith) h

-- the bytes of k numbers from the i-th on are the bytes that stand there
pub bytes_part : (i k : ℕ) (bytes : List ℕ) → 4 * (i + k) ≤ length bytes → Each IsByte bytes → unsigned_bytes 4 (take k (drop i (unsigned 4 bytes))) ≡ take (4 * k) (drop (4 * i) bytes)
bytes_part i k bytes l h =
    let more : ℕ = length bytes / 4 - i in
    let split : length bytes / 4 ≡ i + more = omega arith in
    let from : drop i (unsigned 4 bytes) ≡ map number (blocks 4 more (drop (4 * i) bytes)) = ap (λ (m : ℕ). drop i (map number (blocks 4 m bytes))) split ∙ later i more bytes in
    rw (from, front k more (drop (4 * i) bytes) (omega arith))
    (blocks-back (bytes_of 4) number 4 four_same k (drop (4 * i) bytes) (rw (length-drop (4 * i) bytes) (omega arith)) (each-drop IsByte (4 * i) bytes h))

-- they fit 32 bits
pub numbers-small : (bytes : List ℕ) → Each IsByte bytes → Each (λ (v : ℕ). v < 2 ^ 32) (unsigned 4 bytes)
unfolding blocks
numbers-small bytes h = go (length bytes / 4) bytes h
  where
    go : (k : ℕ) (bs : List ℕ) → Each IsByte bs → Each (λ (v : ℕ). v < 2 ^ 32) (map number (blocks 4 k bs))
    go zero bs h = tt
    go (suc k) bs h = (number_small 4 (take 4 bs) (rw (length-take 4 bs) (omega arith)) (each_take IsByte 4 bs h), go k (drop 4 bs) (each-drop IsByte 4 bs h))

-- the number at an index, by its bytes
pub four_number : (bytes : List ℕ) (k : ℕ) → k < length bytes / 4 → four_at bytes (k * 4) ≡ get_or (unsigned 4 bytes) k 0
unfolding number
four_number bytes k h = four-at bytes (k * 4) (omega arith) ∙ sym (decoded_at number 4 bytes k h)
