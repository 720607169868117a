-- Signed numbers of eight bytes, by their halves.
use Rattle.std.proofs.Common.{◌≡◌, ℕ, ◌-◌, ◌*◌, ◌^◌, ◌<◌, ◌≤◌, pos, negsuc, ap, arith, le-ltb, lt-ltb}
use Rattle.words.specs.LittleEndian.{to_signed}

module _ (v : ℕ) where
  pub low_half : v < 2 ^ 63 → to_signed 8 v ≡ pos v
  unfolding to_signed
  low_half h = rw (lt-ltb (2 * v) (256 ^ 8) (omega arith))

  pub high_half : 2 ^ 63 ≤ v → to_signed 8 v ≡ negsuc (18446744073709551615 - v)
  unfolding to_signed
  high_half h = rw (le-ltb (2 * v) (256 ^ 8) (omega arith)) (ap negsuc (omega arith))
