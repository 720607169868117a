-- The bytes of a state, and a state stored over 192 bytes, in two parts.
use mathlib.Core.Path.{◌≡◌, sym, ap, ◌∙◌}
use mathlib.Core.List.{List, [], ◌++◌, append-nil}
use Prim.Native.Nat.{ℕ, ◌*◌, ◌-◌, ◌/◌}
use native.Mathlib.Omega.{arith}
use lib.IntN.{ℤ}
use lib.ListN.{length, take, drop, length-append, length-drop}
use lib.Seq.{take_at, drop_at, take_all, length-take-le, drop-length}
use borrow.Rule.Slice.PartMut.{put_mid}
use Rattle.words.specs.LittleEndian.{bytes_of, signed_bytes_of, unsigned_bytes, signed_bytes, stored}
use Rattle.words.proofs.Blocks.{encoded, length_encoded}
use Rattle.words.proofs.Digits.{length-bytes_of, length-signed_bytes_of}

-- numbers stored over just as many bytes as they have
stored-whole : {A : Type 0} (f : A → List ℕ) (width : ℕ) → ((a : A) → length (f a) ≡ width) → (xs : List A) (bytes : List ℕ) {new : List ℕ} → length bytes / width ≡ length xs → length xs * width ≡ length bytes
    → new ≡ stored (encoded f (take (length bytes / width) xs)) bytes → new ≡ encoded f xs
stored-whole f width same xs bytes room full e = e ∙ rw (take_all (length bytes / width) xs (omega arith), length_encoded f width same xs, full, drop-length, append-nil)

-- how many bytes the counts have, and the held numbers
pub counts-length : (made : List ℕ) → length made ≡ 16 → length (unsigned_bytes 4 made) ≡ 64
counts-length made e = length_encoded (bytes_of 4) 4 (length-bytes_of 4) made ∙ rw e

pub numbers-length : (held : List ℤ) → length held ≡ 16 → length (signed_bytes 8 held) ≡ 128
numbers-length held e = length_encoded (signed_bytes_of 8) 8 (length-signed_bytes_of 8) held ∙ rw e

-- bytes stored over as many
pub stored-over : (new old : List ℕ) → length new ≡ length old → stored new old ≡ new
stored-over new old e = rw (e, drop-length old, append-nil)

module _ (made : List ℕ) (held : List ℤ) (bytes : List ℕ) (lm : length made ≡ 16) (lh : length held ≡ 16) (lb : length bytes ≡ 192) where
  -- the counts in the first 64 bytes, and then the held numbers in the others
  pub state-stored : {counts numbers : List ℕ} → counts ≡ stored (unsigned_bytes 4 (take (length (take 64 bytes) / 4) made)) (take 64 bytes)
      → numbers ≡ stored (signed_bytes 8 (take (length (take (length (counts ++ drop 64 bytes) - 64) (drop 64 (counts ++ drop 64 bytes))) / 8) held)) (take (length (counts ++ drop 64 bytes) - 64) (drop 64 (counts ++ drop 64 bytes)))
      → put_mid 64 (length (counts ++ drop 64 bytes) - 64) (counts ++ drop 64 bytes) numbers ≡ stored (unsigned_bytes 4 made ++ signed_bytes 8 held) bytes
  state-stored {counts} {numbers} ec en =
      let front : length (take 64 bytes) ≡ 64 = length-take-le 64 bytes (omega arith) in
      let back : length (drop 64 bytes) ≡ 128 = rw length-drop (omega arith) in
      let us : counts ≡ unsigned_bytes 4 made = stored-whole (bytes_of 4) 4 (length-bytes_of 4) made (take 64 bytes) (rw (front, lm)) (rw (front, lm)) ec in
      let usize : length (unsigned_bytes 4 made) ≡ 64 = counts-length made lm in
      let vsize : length (signed_bytes 8 held) ≡ 128 = numbers-length held lh in
      let rest : drop 64 (unsigned_bytes 4 made ++ drop 64 bytes) ≡ drop 64 bytes = drop_at (unsigned_bytes 4 made) (drop 64 bytes) 64 usize in
      let many : length (unsigned_bytes 4 made ++ drop 64 bytes) - 64 ≡ 128 = rw (length-append, usize, back) in
      let part : take 128 (drop 64 bytes) ≡ drop 64 bytes = take_all 128 (drop 64 bytes) (omega arith) in
      let vs : numbers ≡ signed_bytes 8 held = stored-whole (signed_bytes_of 8) 8 (length-signed_bytes_of 8) held (drop 64 bytes) (rw (back, lh)) (rw (back, lh)) (rw (us, rest, many, part) at en) in
      let none : drop 128 (drop 64 bytes) ≡ [] = ap (λ (k : ℕ). drop k (drop 64 bytes)) (sym back) ∙ drop-length (drop 64 bytes) in
      let both : length (unsigned_bytes 4 made ++ signed_bytes 8 held) ≡ length bytes = rw (length-append, usize, vsize, lb) in
      rw (us, vs, many, rest, take_at (unsigned_bytes 4 made) (drop 64 bytes) 64 usize, none, stored-over (unsigned_bytes 4 made ++ signed_bytes 8 held) bytes both, append-nil)
