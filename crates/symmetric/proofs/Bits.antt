-- The test of two signed numbers by their bits.
use mathlib.Core.Path.{◌≡◌, refl, sym}
use mathlib.Core.Bool.{Bool, true, false}
use lib.Dec.{eqb}
use lib.IntN.{ℤ}
use borrow.Author.Tests.{eqb-true, eqb-false}
use mir.Syntax.{Width}
use mir.Val.{SFits, of_z}
use mathlib.Core.Path.{ap}
use Rattle.base.specs.Integers.{same}
use Rattle.base.proofs.Integers.{bits-eq, same_refl, same_false}

pub bits-same : {w : Width} {a b : ℤ} → SFits w a → SFits w b → eqb (of_z w a) (of_z w b) ≡ same a b
bits-same {w} {a} {b} f g = go (eqb (of_z w a) (of_z w b)) refl
  where
    go : (t : Bool) → eqb (of_z w a) (of_z w b) ≡ t → t ≡ same a b
    go true e = let same_is : a ≡ b = bits-eq f g (eqb-true (of_z w a) (of_z w b) e) in rw same_is (sym (same_refl b))
    go false e = sym (same_false a b (λ h. eqb-false (of_z w a) (of_z w b) e (ap (of_z w) h)))
