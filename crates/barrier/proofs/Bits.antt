-- Bits of a number: those of a union, of a common part and of two bytes; and that they tell the number. Assumes
-- nothing.
use Rattle.std.proofs.Common.{◌≡◌, ℕ, zero, suc, ◌+◌, ◌-◌, ◌*◌, ◌/◌, ◌%◌, ◌^◌, ◌<◌, ◌≤◌, Bool, true, false, cond, ◌&&◌, ◌||◌, eqb, ltb, ◌⊎◌, sym, refl, ap, ◌∙◌, subst, inl, inr, ⊎_elim, true≢false, div-one, arith, shr-shr, ltb-false, ltb-true}
use native.Mathlib.Nat.{zero-div}
use lib.Bits.{bit_and, bit_or, and_shr, or_shr, and_mod, or_mod, and_mask}
use lib.Pow.{high, low, field, mod-mod-pow}
use mir.Val.{bool_byte}
use Rattle.base.specs.Lists.{bit}
use Rattle.barrier.specs.Bits.{has_bit}

-- ---- one bit

pub bit-zero : (v : ℕ) → has_bit 0 v ≡ false
unfolding has_bit
bit-zero v = rw (zero-div (2 ^ v))

pub bit-first : (n : ℕ) → eqb (n % 2) 1 ≡ has_bit n 0
unfolding has_bit
bit-first n = rw (div-one n)

module _ (op : ℕ → ℕ → ℕ) (both : Bool → Bool → Bool) (shr : (a b k : ℕ) → op a b / 2 ^ k ≡ op (a / 2 ^ k) (b / 2 ^ k)) (left : (a b k : ℕ) → op a b % 2 ^ k ≡ op (a % 2 ^ k) (b % 2 ^ k))
    (digit : (p q : ℕ) → p < 2 → q < 2 → eqb (op p q) 1 ≡ both (eqb p 1) (eqb q 1)) where
  bit_op : (a b v : ℕ) → has_bit (op a b) v ≡ both (has_bit a v) (has_bit b v)
  unfolding has_bit
  bit_op a b v = rw (shr a b v, left (a / 2 ^ v) (b / 2 ^ v) 1) (digit (a / 2 ^ v % 2) (b / 2 ^ v % 2) (omega arith) (omega arith))

-- of two digits
digits : (P : ℕ → ℕ → Type 0) → P 0 0 → P 0 1 → P 1 0 → P 1 1 → (p q : ℕ) → p < 2 → q < 2 → P p q
digits P a b c d zero zero g h = a
digits P a b c d zero (suc zero) g h = b
digits P a b c d zero (suc (suc q)) g h = absurd (omega arith)
digits P a b c d (suc zero) zero g h = c
digits P a b c d (suc zero) (suc zero) g h = d
digits P a b c d (suc zero) (suc (suc q)) g h = absurd (omega arith)
digits P a b c d (suc (suc p)) q g h = absurd (omega arith)

pub bit-or : (a b v : ℕ) → has_bit (bit_or a b) v ≡ has_bit a v || has_bit b v
bit-or = bit_op bit_or (λ x y. x || y) or_shr or_mod (digits (λ (p q : ℕ). eqb (bit_or p q) 1 ≡ eqb p 1 || eqb q 1) refl refl refl refl)

pub bit-and : (a b v : ℕ) → has_bit (bit_and a b) v ≡ has_bit a v && has_bit b v
bit-and = bit_op bit_and (λ x y. x && y) and_shr and_mod (digits (λ (p q : ℕ). eqb (bit_and p q) 1 ≡ eqb p 1 && eqb q 1) refl refl refl refl)

-- a flag as a byte
pub byte-bit : (b : Bool) → bool_byte b ≡ bit b
byte-bit true = refl
byte-bit false = refl

-- ---- the bits tell the number

digit_same : (p q : ℕ) → p < 2 → q < 2 → eqb p 1 ≡ eqb q 1 → p ≡ q
digit_same = digits (λ (p q : ℕ). eqb p 1 ≡ eqb q 1 → p ≡ q) (λ e. refl) (λ e. absurd (true≢false (sym e))) (λ e. absurd (true≢false e)) (λ e. refl)

bit_half : (a v : ℕ) → has_bit (a / 2) v ≡ has_bit a (suc v)
unfolding has_bit
bit_half a v = let e : 1 + v ≡ suc v = omega arith in rw (shr-shr a 1 v, e)

pub bits-same : (k a b : ℕ) → a < 2 ^ k → b < 2 ^ k → ((v : ℕ) → v < k → has_bit a v ≡ has_bit b v) → a ≡ b
bits-same zero a b g h e = omega arith
bits-same (suc k) a b g h e =
    let rest : a / 2 ≡ b / 2 = bits-same k (a / 2) (b / 2) (omega arith) (omega arith) (λ v l. bit_half a v ∙ e (suc v) (omega arith) ∙ sym (bit_half b v)) in
    let first : a % 2 ≡ b % 2 = digit_same (a % 2) (b % 2) (omega arith) (omega arith) (bit-first a ∙ e 0 (omega arith) ∙ sym (bit-first b)) in
    omega arith

-- ---- two bytes

bit-low : (hi lo v : ℕ) → lo < 256 → v < 8 → has_bit (hi * 256 + lo) v ≡ has_bit lo v
unfolding has_bit
bit-low hi lo v l h =
    let n : ℕ = hi * 256 + lo in
    let e : (7 - v) + 1 + v ≡ 8 = omega arith in
    let whole : n % 256 ≡ lo = low hi 8 l in
    let part : n % 256 / 2 ^ v ≡ n / 2 ^ v % 2 ^ ((7 - v) + 1) = rw e at (field n ((7 - v) + 1) v) in
    let one : n / 2 ^ v % 2 ^ ((7 - v) + 1) % 2 ≡ n / 2 ^ v % 2 = mod-mod-pow (n / 2 ^ v) (7 - v) 1 in
    ap (λ (x : ℕ). eqb x 1) (sym one ∙ ap (λ (x : ℕ). x % 2) (sym part) ∙ ap (λ (x : ℕ). x / 2 ^ v % 2) whole)

bit_high : (hi lo v : ℕ) → lo < 256 → has_bit (hi * 256 + lo) (8 + v) ≡ has_bit hi v
unfolding has_bit
bit_high hi lo v l = rw (← shr-shr (hi * 256 + lo) 8 v, high hi 8 l)

-- worker v's byte is the low one or the high one
pub place : (v : ℕ) → v < 16 → ((v / 8 ≡ 0) × (v % 8 ≡ v) × (v < 8)) ⊎ ((v / 8 ≡ 1) × (8 + v % 8 ≡ v))
place v h = go (ltb v 8) refl
  where
    go : (b : Bool) → ltb v 8 ≡ b → ((v / 8 ≡ 0) × (v % 8 ≡ v) × (v < 8)) ⊎ ((v / 8 ≡ 1) × (8 + v % 8 ≡ v))
    go true e = let l : v < 8 = ltb-true v 8 e in inl (omega arith, omega arith, l)
    go false e = let l : 8 ≤ v = ltb-false v 8 e in inr (omega arith, omega arith)

two_bytes : (hi lo v : ℕ) → lo < 256 → v < 16 → has_bit (hi * 256 + lo) v ≡ cond (eqb (v / 8) 0) (has_bit lo (v % 8)) (has_bit hi (v % 8))
two_bytes hi lo v l h =
    ⊎_elim (λ p. rw (p.0, p.1) (bit-low hi lo v l p.2))
    (λ p. rw p.0 (subst (λ (x : ℕ). has_bit (hi * 256 + lo) x ≡ has_bit hi (v % 8)) p.1 (bit_high hi lo (v % 8) l)))
    (place v h)

-- one of a set's two bytes is set, and the other stays
module _ (m b v : ℕ) (l : b < 256) (h : v < 16) where
  pub whole : has_bit m v ≡ cond (eqb (v / 8) 0) (has_bit (m % 256) (v % 8)) (has_bit (m / 256) (v % 8))
  whole = let e : m / 256 * 256 + m % 256 ≡ m = omega arith in rw e at (two_bytes (m / 256) (m % 256) v (omega arith) h)

  pub set-low : has_bit (m / 256 * 256 + b) v ≡ cond (eqb 0 (0 + v / 8)) (has_bit b (v % 8)) (has_bit m v)
  set-low = ⊎_elim (λ p. rw (two_bytes (m / 256) b v l h, whole, p.0)) (λ p. rw (two_bytes (m / 256) b v l h, whole, p.0)) (place v h)

  pub set-high : has_bit (b * 256 + m % 256) v ≡ cond (eqb 1 (0 + v / 8)) (has_bit b (v % 8)) (has_bit m v)
  set-high = ⊎_elim (λ p. rw (two_bytes b (m % 256) v (omega arith) h, whole, p.0)) (λ p. rw (two_bytes b (m % 256) v (omega arith) h, whole, p.0)) (place v h)

-- a set of one byte
module _ (b v : ℕ) (l : b < 256) (h : v < 16) where
  pub low-alone : has_bit b v ≡ eqb 2 (2 + v / 8) && has_bit b (v % 8)
  low-alone =
      let e : 0 * 256 + b ≡ b = omega arith in
      ⊎_elim (λ p. rw p.0 (rw (e, p.0) at (two_bytes 0 b v l h))) (λ p. rw p.0 ((rw (e, p.0) at (two_bytes 0 b v l h)) ∙ bit-zero (v % 8))) (place v h)

  pub high-alone : has_bit (b * 256) v ≡ eqb 3 (2 + v / 8) && has_bit b (v % 8)
  high-alone =
      let e : b * 256 + 0 ≡ b * 256 = omega arith in
      ⊎_elim (λ p. rw p.0 ((rw (e, p.0) at (two_bytes b 0 v (omega arith) h)) ∙ bit-zero (v % 8))) (λ p. rw p.0 (rw (e, p.0) at (two_bytes b 0 v (omega arith) h))) (place v h)

-- ---- by mask

pub mask_one : (n : ℕ) → bit_and n 1 ≡ n % 2
mask_one n = and_mask n 1
