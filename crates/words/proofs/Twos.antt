-- Two's complement at every width: `to_signed` and `of_signed` are the machine's reading of a signed number's bits and
-- its bits; and each way by -1 - x.
use mathlib.Core.Path.{◌≡◌, refl}
use mathlib.Core.Bool.{Bool, true, false, cond}
use Prim.Native.Nat.{ℕ, suc, ◌*◌, ◌-◌, ◌^◌}
use native.Mathlib.Omega.{arith}
use lib.Dec.{ltb}
use lib.IntN.{ℤ, pos, negsuc}
use borrow.Author.Tests.{ltb-true, ltb-false, lt-ltb, le-ltb}
use mir.Syntax.{Width}
use mir.Val.{bits, hbits, to_z, of_z}
use mir.ValLaws.{pow-bits}
use Rattle.words.specs.LittleEndian.{to_signed, of_signed}

-- ---- the definitions and the machine, where `size` bytes are the machine's width

module _ (w : Width) (size : ℕ) (same : 256 ^ size ≡ 2 ^ bits w) where
  -- the machine's reading
  pub to_signed-is : (v : ℕ) → to_signed size v ≡ to_z w v
  unfolding to_signed
  to_signed-is v = rw same (go (ltb v (2 ^ hbits w)) refl)
    where
      go : (b : Bool) → ltb v (2 ^ hbits w) ≡ b → cond (ltb (2 * v) (2 ^ bits w)) (pos v) (negsuc (2 ^ bits w - suc v)) ≡ to_z w v
      go true e = rw (e, lt-ltb (2 * v) (2 ^ bits w) (omega (arith, ltb-true v (2 ^ hbits w) e, pow-bits w)))
      go false e = rw (e, le-ltb (2 * v) (2 ^ bits w) (omega (arith, ltb-false v (2 ^ hbits w) e, pow-bits w)))

  -- the machine's bits
  pub of_signed-is : (z : ℤ) → of_signed size z ≡ of_z w z
  unfolding of_signed
  of_signed-is (pos v) = refl
  of_signed-is (negsuc v) = rw same
