-- Two numbers of 32 bits have a product of 64 bits.
use Prim.Native.Nat.{◌^◌, ◌≤◌}
use native.Mathlib.Omega.{arith}
use lib.IntN.{ℤ, pos, negsuc, nat_abs, ◌*ℤ◌}
use mir.Syntax.{w32, w64}
use mir.Val.{SFits}
use Rattle.base.proofs.Integers.{abs-mul-le, fits-abs}

abs_32 : {z : ℤ} → SFits w32 z → nat_abs z ≤ 2 ^ 31
abs_32 {z = pos n} f = omega (arith, f.sfits)
abs_32 {z = negsuc n} f = omega (arith, f.sfits)

module _ {a b : ℤ} (f : SFits w32 a) (g : SFits w32 b) where
  pub record Fitting : Type 0 where
    pub left : SFits w64 a
    pub right : SFits w64 b
    pub product : SFits w64 (a *ℤ b)

  pub fitting : Fitting
  fitting = record {
    left = fits-abs (omega (arith, abs_32 f));
    right = fits-abs (omega (arith, abs_32 g));
    product = fits-abs (omega (arith, abs-mul-le a b (abs_32 f) (abs_32 g)));
  }
