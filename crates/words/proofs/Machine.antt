-- The library's bytes of a number, the low byte first, are the bytes that stand for it.
use mathlib.Core.Path.{◌≡◌, refl, sym, ap, ap₂, ◌∙◌}
use mathlib.Core.List.{List, ◌∷◌, append_assoc}
use Prim.Native.Nat.{ℕ, zero, suc, ◌+◌, ◌/◌, ◌%◌, ◌^◌, ◌-◌, ◌≤◌}
use native.Mathlib.Nat.{pow-suc}
use native.Mathlib.Omega.{arith}
use Rattle.std.proofs.Math.Nat.{div-div-eq-div-mul, div-one}
use Rattle.std.specs.Int.{Width, byte_at, byte_len, bytes_low_first, to_le_bytes}
use lib.ListN.{length}
use lib.Seq.{sets, sets-eq, drop-drop}
use borrow.Rule.Slice.PartMut.{put_mid}
use Rattle.words.specs.LittleEndian.{bytes_of}

-- the bytes from the i-th on
low_first : (i width v : ℕ) → bytes_low_first i width v ≡ bytes_of width (v / 256 ^ i)
unfolding bytes_of
low_first i zero v = refl
low_first i (suc width) v =
    let rest : v / 256 ^ suc i ≡ v / 256 ^ i / 256 = ap (λ (p : ℕ). v / p) (pow-suc 256 i) ∙ sym (div-div-eq-div-mul v (256 ^ i) 256) in
    ap₂ (λ (b : ℕ) (bs : List ℕ). b ∷ bs) (first i) (low_first (suc i) width v ∙ ap (bytes_of width) rest)
  where
    first : (i : ℕ) → byte_at i v ≡ v / 256 ^ i % 256
    first zero = ap (λ (n : ℕ). n % 256) (sym (div-one v))
    first (suc i) = refl

-- all of them
pub le_bytes : (w : Width) (v : ℕ) → to_le_bytes w v ≡ bytes_of (byte_len w) v
le_bytes w v = low_first 0 (byte_len w) v ∙ ap (bytes_of (byte_len w)) (div-one v)

-- a part written over is a run of stores
pub put-sets : (at width : ℕ) (l bs new : List ℕ) → at + width ≤ length l → length bs ≡ width → new ≡ bs → put_mid at (at + width - at) l new ≡ sets l at bs
put-sets at width l bs new h e same =
    let k : at + width - at ≡ width = omega arith in
    rw (same, k, sets-eq bs l at (omega arith), e, drop-drop, append_assoc)
