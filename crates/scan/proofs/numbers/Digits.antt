-- The loop over a number's digits: after i - at digits that make v, what is left decides.
use Rattle.std.proofs.Common.{Some, None}
use mathlib.Core.Path.{◌≡◌, refl, ap, subst, ◌∙◌}
use mathlib.Core.Bool.{Bool, true, false, ◌&&◌, ◌||◌, not}
use mathlib.Core.List.{List, []}
use Prim.Native.Nat.{ℕ, suc, ◌+◌, ◌-◌, ◌*◌, ◌^◌, ◌≤◌, ◌<◌}
use native.Mathlib.Nat.{pow-suc, pow-le-pow_right}
use native.Mathlib.Omega.{arith}
use lib.Dec.{leb, eqb}
use lib.ListN.{length, get_or, drop}
use borrow.Author.Tests.{le-leb, lt-leb, eqb-true}
use Rattle.base.proofs.Booleans.{and_false, or_true}
use Rattle.market.specs.Bytes.{class_of}
use Rattle.market.specs.Fields.{digits, is_number, value_of, numeral}
use Rattle.scan.specs.Code.Positions.{number_at}
use Rattle.scan.proofs.numbers.Scanning.{class_inside, digits_more, digit_range, first_digit}

pub record Digits (s : List ℕ) (at v i : ℕ) : Type 0 where
  pub after : at ≤ i
  pub inside : i ≤ length s
  pub few : i - at ≤ 10
  pub small : v < 10 ^ (i - at)
  pub count : i - at + length (digits (drop i s)) ≡ length (digits (drop at s))
  pub made : value_of v (digits (drop i s)) ≡ value_of 0 (digits (drop at s))

digits-start : (s : List ℕ) (at : ℕ) → at < length s → Digits s at 0 at
digits-start s at h =
    let e : at - at ≡ 0 = omega arith in
    record { after = omega arith; inside = omega arith; few = omega arith; small = rw e (omega arith); count = omega arith; made = refl }

pub digits_step : (s : List ℕ) (at v i : ℕ) → Digits s at v i → i < length s → class_of (get_or s i 0) ≡ 1 → i - at < 10 → Digits s at (v * 10 + (get_or s i 0 - 48)) (i + 1)
unfolding value_of
digits_step s at v i d h e l =
    let r = digit_range (get_or s i 0) e in
    let m = digits_more s i h e in
    let n : i + 1 - at ≡ suc (i - at) = omega (arith, d.after) in
    record {
      after = omega arith;
      inside = omega arith;
      few = omega arith;
      small = rw (n, pow-suc) (omega arith);
      count = omega (arith, d.count, ap length m);
      made = rw m at d.made;
    }

-- the digits at a position are a number, or are none
module _ (s : List ℕ) (at : ℕ) where
  number-yes : is_number (digits (drop at s)) ≡ true → Some (value_of 0 (digits (drop at s)), at + length (digits (drop at s))) ≡ number_at at (numeral (drop at s))
  unfolding numeral
  number-yes e = rw e

  number-no : is_number (digits (drop at s)) ≡ false → None ≡ number_at at (numeral (drop at s))
  unfolding numeral
  number-no e = rw e

  pub number-none : digits (drop at s) ≡ [] → None ≡ number_at at (numeral (drop at s))
  unfolding is_number
  number-none e = number-no (rw e)

-- the first digit, and what it makes
pub digits-first : (s : List ℕ) (at : ℕ) → at < length s → class_of (get_or s at 0) ≡ 1 → Digits s at (get_or s at 0 - 48) (at + 1)
digits-first s at h e =
    let z : 0 * 10 + (get_or s at 0 - 48) ≡ get_or s at 0 - 48 = omega arith in
    subst (λ (v : ℕ). Digits s at v (at + 1)) z (digits_step s at 0 at (digits-start s at h) h e (omega arith))

module _ (s : List ℕ) (at v i : ℕ) (d : Digits s at v i) (h : at < i) where
  -- no digit is left, and a 0 stands alone
  pub digits-done : digits (drop i s) ≡ [] → (get_or s at 0 ≡ 48 → i ≡ at + 1) → Some (v, i) ≡ number_at at (numeral (drop at s))
  unfolding is_number value_of
  digits-done e lone =
      let n : length (digits (drop at s)) ≡ i - at = omega (arith, d.count, ap length e) in
      let w : v ≡ value_of 0 (digits (drop at s)) = rw e at d.made in
      let p : i ≡ at + length (digits (drop at s)) = omega (arith, h) in
      let f = (first_digit s at (omega (arith, h))).1 in
      ap (λ (y : ℕ). Some (y, i)) w ∙ ap (λ (y : ℕ). Some (value_of 0 (digits (drop at s)), y)) p
      ∙ number-yes s at (rw (n, f, le-leb 1 (i - at) (omega arith), le-leb (i - at) 10 d.few) (go (eqb (get_or s at 0) 48) refl))
    where
      go : (b : Bool) → eqb (get_or s at 0) 48 ≡ b → leb (i - at) 1 || not b ≡ true
      go true e = rw (le-leb (i - at) 1 (omega (arith, lone (eqb-true (get_or s at 0) 48 e))))
      go false e = or_true (leb (i - at) 1)

  -- a digit is left after ten
  pub digits-many : 10 ≤ i - at → class_of (get_or s i 0) ≡ 1 → None ≡ number_at at (numeral (drop at s))
  unfolding is_number
  digits-many l e =
      let m = digits_more s i (class_inside s i (omega (arith, e))) e in
      number-no s at (rw (lt-leb (length (digits (drop at s))) 10 (omega (arith, d.count, ap length m)), and_false (leb 1 (length (digits (drop at s))))))

  -- a digit is left after a 0
  pub digits_needless : get_or s at 0 ≡ 48 → class_of (get_or s i 0) ≡ 1 → None ≡ number_at at (numeral (drop at s))
  unfolding is_number
  digits_needless z e =
      let m = digits_more s i (class_inside s i (omega (arith, e))) e in
      let n : 1 < length (digits (drop at s)) = omega (arith, d.count, ap length m, h) in
      let f = (first_digit s at (omega arith)).1 in
      number-no s at (rw (f, z, lt-leb (length (digits (drop at s))) 1 n) (and_false (leb 1 (length (digits (drop at s))) && leb (length (digits (drop at s))) 10)))
