-- What bytes of a class are.
use mathlib.Core.Path.{◌≡◌, refl, subst}
use mathlib.Core.Bool.{Bool, true, false, ◌&&◌, cond}
use Prim.Native.Nat.{ℕ, zero, suc, ◌≤◌}
use lib.Dec.{leb, eqb}
use borrow.Author.Tests.{eqb-true, leb-true}
use Rattle.base.proofs.Booleans.{and_left, and_right}
use Rattle.market.specs.Bytes.{class_of}

-- digit 1, sign 2, space 3, line end 4
abbrev pub Means : (b class : ℕ) → Type 0
Means b zero = Unit {0}
Means b (suc zero) = (48 ≤ b) × (b ≤ 57)
Means b (suc (suc zero)) = b ≡ 45
Means b (suc (suc (suc zero))) = b ≡ 32
Means b (suc (suc (suc (suc zero)))) = b ≡ 10
Means b (suc (suc (suc (suc (suc k))))) = Unit {0}

pub class_means : (b k : ℕ) → class_of b ≡ k → Means b k
unfolding class_of
class_means b k e = subst (Means b) e (go (leb 48 b && leb b 57) refl (eqb b 45) refl (eqb b 32) refl (eqb b 10) refl)
  where
    go : (d : Bool) → leb 48 b && leb b 57 ≡ d → (s : Bool) → eqb b 45 ≡ s → (p : Bool) → eqb b 32 ≡ p → (l : Bool) → eqb b 10 ≡ l
        → Means b (cond d 1 (cond s 2 (cond p 3 (cond l 4 0))))
    go true h s hs p hp l hl = (leb-true 48 b (and_left (leb 48 b) (leb b 57) h), leb-true b 57 (and_right (leb 48 b) (leb b 57) h))
    go false h true hs p hp l hl = eqb-true b 45 hs
    go false h false hs true hp l hl = eqb-true b 32 hp
    go false h false hs false hp true hl = eqb-true b 10 hl
    go false h false hs false hp false hl = tt

-- .. where the class is tested
pub is_means : (b k : ℕ) → eqb (class_of b) k ≡ true → Means b k
is_means b k e = class_means b k (eqb-true (class_of b) k e)
