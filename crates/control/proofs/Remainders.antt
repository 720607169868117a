-- Remainders of whole numbers: a sum's and a product's are those of the remainders. Assumes nothing.
use Rattle.std.proofs.Common.{◌≡◌, ℕ, suc, ◌+◌, ◌-◌, ◌*◌, ◌/◌, ◌%◌, ◌^◌, ◌<◌, Bool, true, false, cond, ltb, ℤ, pos, negsuc, ◌+ℤ◌, ◌-ℤ◌, ◌*ℤ◌, nat_abs, refl, ap, div-add-mod', arith}
use Rattle.base.proofs.Integers.{up, down, lin_add, lin_neg, lin_sub, lin_equal}
use Rattle.words.specs.LittleEndian.{to_signed}
use Rattle.control.specs.ControlNumber.{modulus, remainder}

-- ---- products of whole numbers

up-mul : (k : ℕ) (z : ℤ) → (up (pos k *ℤ z) ≡ k * up z) × (down (pos k *ℤ z) ≡ k * down z)
up-mul k (pos n) = (refl, omega arith)
up-mul k (negsuc n) = (omega (arith, (lin_neg (pos (k * suc n))).0), (lin_neg (pos (k * suc n))).1)

-- k × a is k × b and k times what a is more
pub mul-sub : (k : ℕ) (a b : ℤ) → pos k *ℤ a ≡ (pos k *ℤ b) +ℤ (pos k *ℤ (a -ℤ b))
mul-sub k a b =
    lin_equal (pos k *ℤ a) ((pos k *ℤ b) +ℤ (pos k *ℤ (a -ℤ b)))
    (omega (arith, up-mul k (a -ℤ b), up-mul k a, up-mul k b, ap (λ (x : ℕ). k * x) (lin_sub a b), lin_add (pos k *ℤ b) (pos k *ℤ (a -ℤ b))))

-- ---- remainders

-- z and r differ by a multiple of the modulus
record Leaves (z : ℤ) (r : ℕ) : Type 0 where
  over : ℕ
  under : ℕ
  is : up z + under * modulus ≡ down z + r + over * modulus

leaves : (z : ℤ) → Leaves z (remainder z)
unfolding remainder
leaves (pos n) = record { over = n / modulus; under = 0; is = omega arith }
leaves (negsuc n) = record { over = 0; under = suc (n / modulus); is = omega arith }

leaves-only : (z : ℤ) (r : ℕ) → Leaves z r → remainder z ≡ r % modulus
unfolding remainder
leaves-only (pos n) r l = omega (arith, l.is)
leaves-only (negsuc n) r l = omega (arith, l.is)

pub remainder-small : (z : ℤ) → remainder z < modulus
unfolding remainder
remainder-small (pos n) = omega arith
remainder-small (negsuc n) = omega arith

pub remainder-add : (a b : ℤ) → remainder (a +ℤ b) ≡ (remainder a + remainder b) % modulus
remainder-add a b =
    let l = leaves a in
    let m = leaves b in
    leaves-only (a +ℤ b) (remainder a + remainder b) (record { over = l.over + m.over; under = l.under + m.under; is = omega (arith, lin_add a b, l.is, m.is) })

pub remainder-mul : (k : ℕ) (z : ℤ) → remainder (pos k *ℤ z) ≡ k * remainder z % modulus
remainder-mul k z =
    let l = leaves z in
    leaves-only (pos k *ℤ z) (k * remainder z)
    (record { over = k * l.over; under = k * l.under; is = omega (arith, up-mul k z, ap (λ (x : ℕ). k * x) l.is) })

-- a factor may be its remainder
pub mul-remainder : (k r : ℕ) → (k % modulus) * r % modulus ≡ k * r % modulus
mul-remainder k r = go (k / modulus) (k % modulus) (div-add-mod' k modulus)
  where
    go : (q m : ℕ) → q * modulus + m ≡ k → m * r % modulus ≡ k * r % modulus
    go q m e = omega (arith, ap (λ (x : ℕ). x * r) e)

-- eight bytes leave what their low half leaves
pub remainder-low : (low high : ℕ) → low < modulus → high < modulus → remainder (to_signed 8 (low + high * modulus)) ≡ low
unfolding remainder to_signed
remainder-low low high l h = go (ltb (2 * (low + high * modulus)) (256 ^ 8)) refl
  where
    go : (b : Bool) → ltb (2 * (low + high * modulus)) (256 ^ 8) ≡ b → remainder (cond b (pos (low + high * modulus)) (negsuc (256 ^ 8 - suc (low + high * modulus)))) ≡ low
    go true e = omega arith
    go false e = omega arith

-- no remainder: a multiple
pub multiple_none : (z : ℤ) → nat_abs z % modulus ≡ 0 → remainder z ≡ 0
unfolding remainder
multiple_none (pos n) h = h
multiple_none (negsuc n) h = omega arith

pub none_multiple : (z : ℤ) → remainder z ≡ 0 → nat_abs z % modulus ≡ 0
unfolding remainder
none_multiple (pos n) h = h
none_multiple (negsuc n) h = omega arith
