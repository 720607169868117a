-- A number's digits counted four at a time.
use Rattle.std.proofs.Common.{◌≡◌, ℕ, ◌+◌, ◌/◌, ◌^◌, ◌<◌, ◌≤◌, Bool, true, false, leb, [], ◌∷◌, ◌++◌, length, nat_abs, refl, ap, ◌∙◌, arith, length-append, leb-false, leb-true}
use mir.Val.{bool_byte}
use Rattle.market.specs.Text.{decimal}
use Rattle.market.proofs.Decimal.{decimal-one, decimal-few}
use Rattle.market.proofs.digits.Spelling.{length_more}
use Rattle.words.specs.LittleEndian.{to_signed}
use Rattle.numbers.specs.Lines.{number_line}
use Rattle.numbers.proofs.Bits.{low_half, high_half}

pub bool_small : (t : Bool) → bool_byte t ≤ 1
bool_small true = omega arith
bool_small false = omega arith

length-one : (x : ℕ) → x < 10 → length (decimal 19 x) ≡ 1
length-one x h = ap length (decimal-one 18 x h)

pub length_four : (x : ℕ) → 10000 ≤ x → x < 10 ^ 19 → length (decimal 19 x) ≡ length (decimal 19 (x / 10000)) + 4
length_four x t h =
    let e : x / 10 / 10 / 10 / 10 ≡ x / 10000 = omega arith in
    omega (arith, length_more x (omega arith) h, length_more (x / 10) (omega arith) (omega arith), length_more (x / 10 / 10) (omega arith) (omega arith), length_more (x / 10 / 10 / 10) (omega arith) (omega arith), ap (λ (y : ℕ). length (decimal 19 y)) e)

pub length-small : (x : ℕ) → x < 10000 → length (decimal 19 x) ≡ 1 + bool_byte (leb 10 x) + bool_byte (leb 100 x) + bool_byte (leb 1000 x)
length-small x h = go (leb 10 x) (leb 100 x) (leb 1000 x) refl refl refl
  where
    go : (a b c : Bool) → leb 10 x ≡ a → leb 100 x ≡ b → leb 1000 x ≡ c → length (decimal 19 x) ≡ 1 + bool_byte a + bool_byte b + bool_byte c
    go false true c e f g = absurd (omega (arith, leb-false 10 x e, leb-true 100 x f))
    go false false true e f g = absurd (omega (arith, leb-false 10 x e, leb-true 1000 x g))
    go false false false e f g = length-one x (leb-false 10 x e)
    go true false true e f g = absurd (omega (arith, leb-false 100 x f, leb-true 1000 x g))
    go true false false e f g = omega (arith, length_more x (leb-true 10 x e) (omega arith), length-one (x / 10) (omega (arith, leb-false 100 x f)))
    go true true false e f g = omega (arith, length_more x (leb-true 10 x e) (omega arith), length_more (x / 10) (omega (arith, leb-true 100 x f)) (omega arith), length-one (x / 10 / 10) (omega (arith, leb-false 1000 x g)))
    go true true true e f g =
        omega (arith, length_more x (leb-true 10 x e) (omega arith), length_more (x / 10) (omega (arith, leb-true 100 x f)) (omega arith), length_more (x / 10 / 10) (omega (arith, leb-true 1000 x g)) (omega arith), length-one (x / 10 / 10 / 10) (omega arith))

-- ---- the line of a number in two's complement

module _ (v : ℕ) where
  pub line_plain : v < 2 ^ 63 → number_line (to_signed 8 v) ≡ decimal 19 (nat_abs (to_signed 8 v)) ++ 10 ∷ []
  unfolding number_line
  line_plain h = rw (low_half v h)

  pub line-negative : 2 ^ 63 ≤ v → number_line (to_signed 8 v) ≡ 45 ∷ decimal 19 (nat_abs (to_signed 8 v)) ++ 10 ∷ []
  unfolding number_line
  line-negative h = rw (high_half v h)

  pub line-width : length (number_line (to_signed 8 v)) ≡ length (decimal 19 (nat_abs (to_signed 8 v))) + bool_byte (leb 9223372036854775808 v) + 1
  line-width = go (leb 9223372036854775808 v) refl
    where
      go : (t : Bool) → leb 9223372036854775808 v ≡ t → length (number_line (to_signed 8 v)) ≡ length (decimal 19 (nat_abs (to_signed 8 v))) + bool_byte t + 1
      go true e = ap length (line-negative (leb-true 9223372036854775808 v e)) ∙ rw length-append (omega arith)
      go false e = ap length (line_plain (leb-false 9223372036854775808 v e)) ∙ rw length-append (omega arith)

  -- 21 bytes at most
  pub line-few : length (number_line (to_signed 8 v)) ≤ 21
  line-few = omega (arith, line-width, decimal-few 19 (nat_abs (to_signed 8 v)), bool_small (leb 9223372036854775808 v))

  -- without its sign it has 19 digits at most
  pub magnitude_small : v < 2 ^ 64 → nat_abs (to_signed 8 v) < 10 ^ 19
  magnitude_small h = go (leb 9223372036854775808 v) refl
    where
      go : (t : Bool) → leb 9223372036854775808 v ≡ t → nat_abs (to_signed 8 v) < 10 ^ 19
      go true e = let l = leb-true 9223372036854775808 v e in rw (high_half v l) (omega arith)
      go false e = let l = leb-false 9223372036854775808 v e in rw (low_half v l) (omega arith)
