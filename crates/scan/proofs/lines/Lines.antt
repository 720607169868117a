-- Lines at a position of a text, field by field.
use Rattle.std.proofs.Common.{Some, None}
use Rattle.scan.specs.Code.Positions.{line_of}
use Rattle.scan.specs.declared.lines.Line as code
use mathlib.Core.Path.{◌≡◌, refl, ap}
use mathlib.Core.Bool.{cond}
use mathlib.Core.List.{List}
use Prim.Native.Nat.{ℕ, ◌+◌, ◌-◌, ◌≤◌, ◌<◌}
use native.Mathlib.Omega.{arith}
use lib.Dec.{eqb}
use lib.IntN.{ℤ}
use lib.ListN.{length, get_or, drop, drop_of_length-le}
use borrow.Author.Tests.{ne_eqb}
use Rattle.market.specs.Bytes.{class_of}
use Rattle.market.specs.Fields.{Line, line, broken, numeral, field, value_field, fields}
use Rattle.scan.specs.Code.Positions.{number_at, value_at, fields_at}
use Rattle.scan.proofs.Left.{left-cons, left-later}
use Rattle.scan.proofs.numbers.Answers.{scan_at, scan_no}
use Rattle.scan.proofs.lines.Values.{value-at, value-no}

-- a line, field by field
module _ (s : List ℕ) (at : ℕ) where
  pub line-one : None ≡ number_at at (numeral (drop at s)) → None ≡ fields_at at (fields (drop at s))
  unfolding fields
  line-one n = rw (scan_no at (numeral (drop at s)) n)

  module _ (r p : ℕ) (e1 : Some (r, p) ≡ number_at at (numeral (drop at s))) where
    pub line-two : None ≡ number_at p (field (drop p s)) → None ≡ fields_at at (fields (drop at s))
    unfolding fields
    line-two n =
        let a = scan_at at r p (numeral (drop at s)) e1 in
        rw (a.0, left-later s at p a.1, scan_no p (field (drop p s)) n)

    module _ (c q : ℕ) (e2 : Some (c, q) ≡ number_at p (field (drop p s))) where
      pub line_three : None ≡ value_at q (value_field (drop q s)) → None ≡ fields_at at (fields (drop at s))
      unfolding fields
      line_three n =
          let a = scan_at at r p (numeral (drop at s)) e1 in
          let b = scan_at p c q (field (drop p s)) e2 in
          let ab : p - at + (q - p) ≡ q - at = omega (arith, a.1, b.1) in
          rw (a.0, left-later s at p a.1, b.0, ab, left-later s at q (omega (arith, a.1, b.1)), value-no q (value_field (drop q s)) n)

      module _ (v : ℤ) (z : ℕ) (e3 : Some (v, z) ≡ value_at q (value_field (drop q s))) where
        line_end : fields (drop at s) ≡ cond (eqb (class_of (get_or (drop z s) 0 0)) 4) (line r c v (z - at + 1)) broken
        unfolding fields
        line_end =
            let a = scan_at at r p (numeral (drop at s)) e1 in
            let b = scan_at p c q (field (drop p s)) e2 in
            let d = value-at q z v (value_field (drop q s)) e3 in
            let ab : p - at + (q - p) ≡ q - at = omega (arith, a.1, b.1) in
            let abd : q - at + (z - q) ≡ z - at = omega (arith, a.1, b.1, d.1) in
            rw (a.0, left-later s at p a.1, b.0, ab, left-later s at q (omega (arith, a.1, b.1)), d.0, abd, left-later s at z (omega (arith, a.1, b.1, d.1)))

        pub line-short : length s ≤ z → None ≡ fields_at at (fields (drop at s))
        unfolding class_of
        line-short h = rw (line_end, drop_of_length-le s h)

        pub line_bad : z < length s → (class_of (get_or s z 0) ≡ 4 → ⊥) → None ≡ fields_at at (fields (drop at s))
        line_bad h n = rw (line_end, left-cons s z h, ne_eqb (class_of (get_or s z 0)) 4 n)

        pub line_good : z < length s → class_of (get_or s z 0) ≡ 4 → Some (line_of r c v (z + 1)) ≡ fields_at at (fields (drop at s))
        line_good h n =
            let a = scan_at at r p (numeral (drop at s)) e1 in
            let b = scan_at p c q (field (drop p s)) e2 in
            let d = value-at q z v (value_field (drop q s)) e3 in
            rw (line_end, left-cons s z h, n) (ap (λ (i : ℕ). Some (line_of r c v i)) (omega (arith, a.1, b.1, d.1)))

-- what an answer at a position says of the line
pub line_at : (at r c z : ℕ) (v : ℤ) (l : Line) → Some (line_of r c v z) ≡ fields_at at l → (l ≡ line r c v (z - at)) × (at ≤ z)
line_at at r c z v (line r' c' v' k) e =
    let q : line_of r c v z ≡ line_of r' c' v' (at + k) = cc in
    let f : r ≡ r' = ap (λ (l : code.Line). l.row) q in
    let g : c ≡ c' = ap (λ (l : code.Line). l.column) q in
    let h : v ≡ v' = ap (λ (l : code.Line). l.value) q in
    let i : z ≡ at + k = ap (λ (l : code.Line). l.next) q in
    let j : k ≡ z - at = omega arith in
    (rw (f, g, h, ← j), omega arith)
line_at at r c z v broken e = absurd (cc)

pub line-no : (at : ℕ) (l : Line) → None ≡ fields_at at l → l ≡ broken
line-no at (line r' c' v' k) e = absurd (cc)
line-no at broken e = refl
