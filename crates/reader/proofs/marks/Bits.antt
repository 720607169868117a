-- Bits in words of 64: a bit is set.
use mathlib.Core.Path.{◌≡◌, refl, sym, ap, ◌∙◌}
use mathlib.Core.Bool.{Bool, true, false, ◌||◌, cond}
use mathlib.Core.List.{List}
use Prim.Native.Nat.{ℕ, zero, suc, ◌+◌, ◌-◌, ◌*◌, ◌/◌, ◌%◌, ◌^◌, ◌<◌}
use native.Mathlib.Nat.{pow-suc, div_self, div-eq_of_lt, mul-div_cancel, one-mul}
use native.Mathlib.Omega.{arith}
use lib.Dec.{eqb, ltb, lit<}
use lib.Bits.{bit_or, or_shr, or_mod}
use lib.Pow.{pow_pos, pow-lt, pow-add, shl_exact}
use lib.ListN.{length, get_or, set, length-set}
use lib.Seq.{get_or-set_same, get_or-set_other}
use borrow.Author.Tests.{eqb-true, eqb-false, ltb-true, ltb-false, eq-eqb, ne_eqb}
use Rattle.reader.specs.Code.Marks.{has_bit, is_marked, marked}

pow_bit : (k j : ℕ) → 2 ^ k / 2 ^ j % 2 ≡ cond (eqb j k) 1 0
pow_bit k j = go (eqb j k) refl (ltb j k) refl
  where
    go : (b : Bool) → eqb j k ≡ b → (l : Bool) → ltb j k ≡ l → 2 ^ k / 2 ^ j % 2 ≡ cond b 1 0
    go true e l f = rw (eqb-true j k e, div_self {n = 2 ^ k} (pow_pos k))
    go false e true f =
        let h = ltb-true j k f in
        let m : k ≡ suc (k - suc j) + j = omega arith in
        rw (m, pow-add 2 (suc (k - suc j)) j, mul-div_cancel (2 ^ suc (k - suc j)) (pow_pos j), pow-suc) (omega arith)
    go false e false f =
        let h : k < j = omega (arith, ltb-false j k f, eqb-false j k e) in
        rw (div-eq_of_lt (pow-lt h))

or-bits : (a b : ℕ) → a < 2 → b < 2 → eqb (bit_or a b) 1 ≡ eqb b 1 || eqb a 1
or-bits zero zero h k = refl
or-bits zero (suc zero) h k = refl
or-bits (suc zero) zero h k = refl
or-bits (suc zero) (suc zero) h k = refl
or-bits (suc (suc a)) b h k = absurd (omega arith)
or-bits zero (suc (suc b)) h k = absurd (omega arith)
or-bits (suc zero) (suc (suc b)) h k = absurd (omega arith)

cond-one : (b : Bool) → eqb (cond b 1 0) 1 ≡ b
cond-one true = refl
cond-one false = refl

pub bit-or : (x k j : ℕ) → has_bit (bit_or x (2 ^ k)) j ≡ eqb j k || has_bit x j
bit-or x k j =
    let o : bit_or x (2 ^ k) / 2 ^ j % 2 ≡ bit_or (x / 2 ^ j % 2) (2 ^ k / 2 ^ j % 2) = rw (or_shr x (2 ^ k) j) (or_mod (x / 2 ^ j) (2 ^ k / 2 ^ j) 1) in
    let s : eqb (bit_or (x / 2 ^ j % 2) (2 ^ k / 2 ^ j % 2)) 1 ≡ eqb (2 ^ k / 2 ^ j % 2) 1 || has_bit x j = or-bits (x / 2 ^ j % 2) (2 ^ k / 2 ^ j % 2) (omega arith) (omega arith) in
    let t : eqb (2 ^ k / 2 ^ j % 2) 1 ≡ eqb j k = rw (pow_bit k j) (cond-one (eqb j k)) in
    rw o (s ∙ ap (λ (b : Bool). b || has_bit x j) t)

pub length_marked : (ms : List ℕ) (q : ℕ) → length (marked ms q) ≡ length ms
unfolding marked
length_marked ms q = length-set ms (q / 64) (bit_or (get_or ms (q / 64) 0) (2 ^ (q % 64)))

-- after q is marked, p is marked if it is q or was
pub marked-is : (ms : List ℕ) (q p : ℕ) → q / 64 < length ms → is_marked (marked ms q) p ≡ eqb p q || is_marked ms p
unfolding is_marked marked
marked-is ms q p h = go (eqb (p / 64) (q / 64)) refl
  where
    go : (b : Bool) → eqb (p / 64) (q / 64) ≡ b → has_bit (get_or (set ms (q / 64) (bit_or (get_or ms (q / 64) 0) (2 ^ (q % 64)))) (p / 64) 0) (p % 64) ≡ eqb p q || has_bit (get_or ms (p / 64) 0) (p % 64)
    go true e =
        let w = eqb-true (p / 64) (q / 64) e in
        rw (w, get_or-set_same ms (q / 64) (bit_or (get_or ms (q / 64) 0) (2 ^ (q % 64))) 0 h)
        (bit-or (get_or ms (q / 64) 0) (q % 64) (p % 64) ∙ ap (λ (b : Bool). b || has_bit (get_or ms (q / 64) 0) (p % 64)) (same (eqb (p % 64) (q % 64)) refl w))
      where
        same : (b : Bool) → eqb (p % 64) (q % 64) ≡ b → p / 64 ≡ q / 64 → b ≡ eqb p q
        same true f w = sym (eq-eqb p q (omega (arith, eqb-true (p % 64) (q % 64) f)))
        same false f w = sym (ne_eqb p q (λ n. eqb-false (p % 64) (q % 64) f (ap (λ (x : ℕ). x % 64) n)))
    go false e =
        let n = eqb-false (p / 64) (q / 64) e in
        rw (get_or-set_other ms (q / 64) (p / 64) (bit_or (get_or ms (q / 64) 0) (2 ^ (q % 64))) 0 n, ne_eqb p q (λ f. n (ap (λ (x : ℕ). x / 64) f)))

-- 1 << k
pub one_bit : (k : ℕ) → k < 64 → 1 * 2 ^ k % 2 ^ 64 ≡ 2 ^ k
one_bit k h = shl_exact {a = 1} 1 k 64 (lit< tt) (omega arith) ∙ one-mul (2 ^ k)
