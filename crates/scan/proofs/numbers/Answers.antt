-- What a scanned number at a position says of the text there.
use Rattle.std.proofs.Common.{Some, None}
use mathlib.Core.Path.{◌≡◌, refl, ap}
use mathlib.Core.Bool.{Bool, true, false, ◌&&◌, cond}
use mathlib.Core.List.{List, [], ◌∷◌}
use Prim.Native.Nat.{ℕ, ◌+◌, ◌-◌, ◌*◌, ◌^◌, ◌≤◌, ◌<◌}
use native.Mathlib.Nat.{pow-suc, mul-le-mul_right, pow-le-pow_right}
use native.Mathlib.Omega.{arith}
use lib.Dec.{leb}
use lib.ListN.{length, drop}
use borrow.Author.Tests.{leb-true, le-leb, eqb-true}
use Rattle.market.specs.Bytes.{class_of, is_digit}
use Rattle.market.specs.Fields.{Scan, got, none, digits, is_number, value_of, numeral, spaces, field, shifted}
use Rattle.scan.specs.Code.Positions.{number_at}
use Rattle.scan.proofs.Left.{left-later}
use Rattle.scan.proofs.numbers.Scanning.{digit_range}

-- what an answer at a position says of the scan
pub scan_at : (at v p : ℕ) (sc : Scan) → Some (v, p) ≡ number_at at sc → (sc ≡ got v (p - at)) × (at ≤ p)
scan_at at v p (got w k) e =
    let q : (v, p) ≡ (w, at + k) = cc in
    let f : v ≡ w = ap (λ (x : ℕ × ℕ). x.0) q in
    let g : p ≡ at + k = ap (λ (x : ℕ × ℕ). x.1) q in
    let h : k ≡ p - at = omega arith in
    (rw (f, ← h), omega arith)
scan_at at v p none e = absurd (cc)

pub scan_no : (at : ℕ) (sc : Scan) → None ≡ number_at at sc → sc ≡ none
scan_no at (got w k) e = absurd (cc)
scan_no at none e = refl

pub field-none : (s : List ℕ) (at : ℕ) → spaces (drop at s) ≡ 0 → None ≡ number_at at (field (drop at s))
unfolding field
field-none s at h = rw h

module _ (s : List ℕ) (at p : ℕ) (ep : p ≡ at + spaces (drop at s)) where
  pub field-some : at < p → number_at p (numeral (drop p s)) ≡ number_at at (field (drop at s))
  unfolding field
  field-some h =
      let g : spaces (drop at s) ≡ p - at = omega arith in
      rw (le-leb 1 (spaces (drop at s)) (omega arith), g, left-later s at p (omega arith)) (go (numeral (drop p s)))
    where
      go : (sc : Scan) → number_at p sc ≡ number_at at (shifted (p - at) sc)
      go (got v k) = ap (λ (i : ℕ). Some (v, i)) (omega arith)
      go none = refl

-- a number is below 10 ^ 10
value_bound : (v : ℕ) (xs : List ℕ) → value_of v (digits xs) < (v + 1) * 10 ^ length (digits xs)
unfolding digits value_of
value_bound v [] = omega arith
value_bound v (b ∷ bs) = go (is_digit b) refl (value_bound (v * 10 + (b - 48)) bs)
  where
    go : (t : Bool) → is_digit b ≡ t → value_of (v * 10 + (b - 48)) (digits bs) < (v * 10 + (b - 48) + 1) * 10 ^ length (digits bs)
        → value_of v (cond t (b ∷ digits bs) []) < (v + 1) * 10 ^ length (cond t (b ∷ digits bs) [])
    go true e ih =
        let r = digit_range b (eqb-true (class_of b) 1 e) in
        let m : (v * 10 + (b - 48) + 1) * 10 ^ length (digits bs) ≤ (v * 10 + 10) * 10 ^ length (digits bs) = mul-le-mul_right (10 ^ length (digits bs)) (omega arith) in
        rw pow-suc (omega arith)
    go false e ih = omega arith

pub number_bound : (xs : List ℕ) (v k : ℕ) → numeral xs ≡ got v k → v < 10000000000
unfolding numeral is_number
number_bound xs v k e = go (leb (length (digits xs)) 10) refl (leb 1 (length (digits xs))) _ e
  where
    go : (b : Bool) → leb (length (digits xs)) 10 ≡ b → (a c : Bool) → cond (a && b && c) (got (value_of 0 (digits xs)) (length (digits xs))) none ≡ got v k → v < 10000000000
    go true t true true e =
        let f : value_of 0 (digits xs) ≡ v = cc in
        omega (arith, value_bound 0 xs, pow-le-pow_right {n = 10} (omega arith) (leb-true (length (digits xs)) 10 t))
    go true t true false e = absurd (cc)
    go true t false c e = absurd (cc)
    go false t true c e = absurd (cc)
    go false t false c e = absurd (cc)
