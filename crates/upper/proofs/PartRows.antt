-- Parts that begin where the rows start, one place more for each: they have room, and stand apart.
use mathlib.Core.Path.{◌≡◌, refl, subst}
use mathlib.Core.Logic.{◌≢◌}
use mathlib.Core.Bool.{Bool, true, false}
use mathlib.Core.List.{List}
use Prim.Native.Nat.{ℕ, zero, suc, ◌+◌, ◌*◌, ◌-◌, ◌≤◌, ◌<◌}
use native.Mathlib.Numerals.{add-one}
use native.Mathlib.Omega.{arith}
use lib.Dec.{ltb}
use lib.IntN.{ℤ}
use lib.ListN.{length, get_or}
use borrow.Author.Tests.{ltb-true, ltb-false}
use Rattle.base.proofs.Lists.{length-filter-le}
use Rattle.matrix.specs.Limits.{max_rows, max_entries}
use Rattle.matrix.specs.Matrix.{Matrix, is_matrix, columns_of}
use Rattle.matrix.proofs.Matrix.{matrix_facts}
use Rattle.matrix.proofs.Checks.{matrix_tidy}
use Rattle.matrix.proofs.Rows.{row_in, length-columns}
use Rattle.matrix.proofs.Entries.{few-entries}
use Rattle.plan.proofs.Once.{once, injective}
use Rattle.upper.specs.Code.Upper.{Positions, Ordered, upper_of, Sizes, Parts, part_at, Begun, Upper}
use Rattle.upper.proofs.PlacedRows.{row_low}
use Rattle.upper.proofs.SizeRows.{size_is}

module _ (m : Matrix) (ok : is_matrix m ≡ true) where
  -- the parts stand in the order of the rows
  climb : (i k : ℕ) → i + k ≤ m.n → part_at m.starts i ≤ part_at m.starts (i + k)
  climb i zero l = let e : i + 0 ≡ i = omega arith in rw e (omega arith)
  climb i (suc k) l = let e : i + suc k ≡ suc (i + k) = omega arith in rw e (omega (arith, climb i k (omega arith), ((matrix_facts m ok).row (i + k) (omega arith)).rises))

  parts_climb : (i k : ℕ) → i ≤ k → k ≤ m.n → part_at m.starts i ≤ part_at m.starts k
  parts_climb i k h l = let e : i + (k - i) ≡ k = omega arith in subst (λ (y : ℕ). part_at m.starts i ≤ part_at m.starts y) e (climb i (k - i) (omega arith))

  -- row i starts before the end of all entries
  pub start-few : (i : ℕ) → i < m.n → get_or m.starts i 0 ≤ 2 * max_entries
  start-few i l = let r = row_in m (matrix_tidy m ok).shape i l (2 * max_entries) (few-entries m ok) in omega (arith, r.rises, r.ends)

module _ (m : Matrix) (order position : List ℕ) (o : Ordered m order) (at : Positions m.n order position) where
  -- the row at p has at most all its stored entries, and its diagonal one
  size_few : (p : ℕ) → p < m.n → part_at m.starts (get_or order p 0) + length (upper_of m order p) ≤ part_at m.starts (suc (get_or order p 0))
  size_few p l =
      let i = get_or order p 0 in
      let low = row_low m order o p l in
      rw (← add-one i)
      (omega (
        arith,
        size_is m order position o at p l,
        length-filter-le (λ v. ltb p (get_or position v 0)) (columns_of m i),
        length-columns m (matrix_tidy m o.matrix).shape i low,
        (row_in m (matrix_tidy m o.matrix).shape i low (2 * max_entries) (few-entries m o.matrix)).rises,
      ))

  pub parts-begun : {parts : List ℕ} → Begun m.n m.starts order parts → Parts m order parts
  parts-begun b = record {
    room = λ p l. omega (arith, b.is p l, size_few p l, parts_climb m o.matrix (suc (get_or order p 0)) m.n (row_low m order o p l) (omega arith), few-entries m o.matrix, (matrix_facts m o.matrix).few);
    apart = λ p r c d lp lr e hc hd y. go p r c d lp lr (omega (arith, b.is p lp, b.is r lr, y)) hc hd (ltb (get_or order p 0) (get_or order r 0)) refl
        (injective m.n order (once m.n order o.once) p r lp lr e);
  }
    where
      go : (p r c d : ℕ) → p < m.n → r < m.n → part_at m.starts (get_or order p 0) + c ≡ part_at m.starts (get_or order r 0) + d → c < length (upper_of m order p) → d < length (upper_of m order r)
          → (t : Bool) → ltb (get_or order p 0) (get_or order r 0) ≡ t → get_or order p 0 ≢ get_or order r 0 → ⊥
      go p r c d lp lr y hc hd true f ne =
          omega (arith, size_few p lp, parts_climb m o.matrix (suc (get_or order p 0)) (get_or order r 0) (ltb-true (get_or order p 0) (get_or order r 0) f) (omega (arith, row_low m order o r lr)))
      go p r c d lp lr y hc hd false f ne =
          omega (arith, size_few r lr, parts_climb m o.matrix (suc (get_or order r 0)) (get_or order p 0) (omega (arith, ltb-false (get_or order p 0) (get_or order r 0) f, ne)) (omega (arith, row_low m order o p lp)))

-- the sizes of the parts of the whole upper triangle
module _ {m : Matrix} {order parts next at : List ℕ} {beside : List ℤ} (u : Upper m order parts m.n next at beside) where
  pub parts-ended : (p : ℕ) → p < m.n → get_or parts p 0 ≤ get_or next p 0
  parts-ended p l = omega (arith, u.ends p l)

  pub part_sizes_are : {sizes : List ℕ} → length sizes ≡ max_rows → ((p : ℕ) → p < m.n → get_or sizes p 0 ≡ get_or next p 0 - get_or parts p 0) → Sizes m order m.n sizes
  part_sizes_are e is = record { long = e; is = λ p l. omega (arith, is p l, u.ends p l) }
