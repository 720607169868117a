-- Values at a position of a text.
use Rattle.std.proofs.Common.{Some, None}
use mathlib.Core.Path.{◌≡◌, refl, ap}
use mathlib.Core.List.{List}
use Prim.Native.Nat.{ℕ, zero, suc, ◌+◌, ◌-◌, ◌≤◌, ◌<◌}
use native.Mathlib.Omega.{arith}
use lib.IntN.{ℤ, pos, negsuc, ◌-ℤ◌, +ℤ_idl}
use lib.ListN.{length, get_or, drop, drop_of_length-le}
use mir.Syntax.{w64}
use mir.Val.{SFits}
use borrow.Author.Tests.{le-leb, ne_eqb}
use Rattle.market.specs.Bytes.{class_of}
use Rattle.market.specs.Fields.{got, Signed, is, no, digits, is_number, numeral, spaces, value, value_field, shifted_signed, positive, negative}
use Rattle.scan.specs.Code.Positions.{number_at, value_at}
use Rattle.scan.proofs.Left.{left-cons, left-later}
use Rattle.scan.proofs.numbers.Answers.{scan_at, scan_no, number_bound}

pub value-at : (at p : ℕ) (v : ℤ) (x : Signed) → Some (v, p) ≡ value_at at x → (x ≡ is v (p - at)) × (at ≤ p)
value-at at p v (is w k) e =
    let q : (v, p) ≡ (w, at + k) = cc in
    let f : v ≡ w = ap (λ (x : ℤ × ℕ). x.0) q in
    let g : p ≡ at + k = ap (λ (x : ℤ × ℕ). x.1) q in
    let h : k ≡ p - at = omega arith in
    (rw (f, ← h), omega arith)
value-at at p v no e = absurd (cc)

pub value-no : (at : ℕ) (x : Signed) → None ≡ value_at at x → x ≡ no
value-no at (is w k) e = absurd (cc)
value-no at no e = refl

pub value-field-none : (s : List ℕ) (at : ℕ) → spaces (drop at s) ≡ 0 → None ≡ value_at at (value_field (drop at s))
unfolding value_field
value-field-none s at h = rw h

module _ (s : List ℕ) (at p : ℕ) (ep : p ≡ at + spaces (drop at s)) where
  pub value-field-some : at < p → value_at p (value (drop p s)) ≡ value_at at (value_field (drop at s))
  unfolding value_field
  value-field-some h =
      let g : spaces (drop at s) ≡ p - at = omega arith in
      rw (le-leb 1 (spaces (drop at s)) (omega arith), g, left-later s at p (omega arith)) (go (value (drop p s)))
    where
      go : (x : Signed) → value_at p x ≡ value_at at (shifted_signed (p - at) x)
      go (is v k) = ap (λ (i : ℕ). Some (v, i)) (omega arith)
      go no = refl

module _ (s : List ℕ) (at : ℕ) where
  pub value_end : length s ≤ at → None ≡ value_at at (value (drop at s))
  unfolding value numeral is_number digits class_of
  value_end h = rw (drop_of_length-le s h)

  module _ (inside : at < length s) where
    signed : class_of (get_or s at 0) ≡ 2 → value (drop at s) ≡ negative (numeral (drop (at + 1) s))
    unfolding value
    signed e = rw (left-cons s at inside, e)

    plain : (class_of (get_or s at 0) ≡ 2 → ⊥) → value (drop at s) ≡ positive (numeral (drop at s))
    unfolding value
    plain e = rw (left-cons s at inside, ne_eqb (class_of (get_or s at 0)) 2 e)

    pub signed_no : class_of (get_or s at 0) ≡ 2 → None ≡ number_at (at + 1) (numeral (drop (at + 1) s)) → None ≡ value_at at (value (drop at s))
    signed_no e n = rw (signed e, scan_no (at + 1) (numeral (drop (at + 1) s)) n)

    pub signed-zero : (v p : ℕ) → v ≡ 0 → class_of (get_or s at 0) ≡ 2 → Some (v, p) ≡ number_at (at + 1) (numeral (drop (at + 1) s)) → None ≡ value_at at (value (drop at s))
    signed-zero v p z e n = rw (signed e, (scan_at (at + 1) v p (numeral (drop (at + 1) s)) n).0, z)

    pub signed-some : (v p : ℕ) → (v ≡ 0 → ⊥) → class_of (get_or s at 0) ≡ 2 → Some (v, p) ≡ number_at (at + 1) (numeral (drop (at + 1) s)) → Some (pos 0 -ℤ pos v, p) ≡ value_at at (value (drop at s))
    signed-some v p z e n =
        let q = scan_at (at + 1) v p (numeral (drop (at + 1) s)) n in
        rw (signed e, q.0) (go v z)
      where
        go : (v : ℕ) → (v ≡ 0 → ⊥) → Some (pos 0 -ℤ pos v, p) ≡ value_at at (negative (got v (p - (at + 1))))
        go zero z = absurd (z refl)
        go (suc u) z =
            let q = scan_at (at + 1) v p (numeral (drop (at + 1) s)) n in
            let k : p ≡ at + suc (p - (at + 1)) = omega (arith, q.1) in
            rw (+ℤ_idl (negsuc u)) (ap (λ (i : ℕ). Some (negsuc u, i)) k)

    pub plain-no : (class_of (get_or s at 0) ≡ 2 → ⊥) → None ≡ number_at at (numeral (drop at s)) → None ≡ value_at at (value (drop at s))
    plain-no e n = rw (plain e, scan_no at (numeral (drop at s)) n)

    pub plain-some : (v p : ℕ) → (class_of (get_or s at 0) ≡ 2 → ⊥) → Some (v, p) ≡ number_at at (numeral (drop at s)) → Some (pos v, p) ≡ value_at at (value (drop at s))
    plain-some v p e n =
        let q = scan_at at v p (numeral (drop at s)) n in
        rw (plain e, q.0) (ap (λ (i : ℕ). Some (pos v, i)) (omega (arith, q.1)))

-- a number that was read, as a signed one
pub small : (xs : List ℕ) (at v p : ℕ) → Some (v, p) ≡ number_at at (numeral xs) → v < 10000000000
small xs at v p n = number_bound xs v (p - at) (scan_at at v p (numeral xs) n).0

pub minus-fits : (v : ℕ) → v < 10000000000 → SFits w64 (pos 0 -ℤ pos v)
minus-fits zero h = record { sfits = omega arith }
minus-fits (suc u) h = rw (+ℤ_idl (negsuc u)) (record { sfits = omega arith })
