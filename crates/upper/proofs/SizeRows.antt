-- A row's entries in the upper triangle are counted by its columns: the later of their rows, and the row itself.
use mathlib.Core.Path.{◌≡◌, refl, sym, ap, ◌∙◌}
use mathlib.Core.Logic.{◌≢◌}
use mathlib.Core.Bool.{Bool, true, false, not, ◌&&◌, ◌||◌, and-true}
use mathlib.Core.List.{List, [], ◌∷◌}
use Prim.Native.Nat.{ℕ, ◌+◌, ◌≤◌, ◌<◌}
use native.Mathlib.Omega.{arith}
use lib.Dec.{eqb, ltb}
use lib.IntN.{ℤ}
use lib.ListN.{length, get_or, take, set, length-append, length-take}
use lib.Seq.{take-suc}
use native.Mathlib.Numerals.{add-one}
use mir.Val.{bool_byte}
use Rattle.base.proofs.Lists.{filter-append, length-filter-le}
use borrow.Author.Tests.{eq-eqb, ne_eqb, lt-ltb, ltb-true}
use Rattle.base.specs.Lists.{filter, keep, is_in, sum_below, bit}
use Rattle.base.proofs.Booleans.{and_false, or_true}
use Rattle.matrix.specs.Limits.{max_rows}
use Rattle.base.proofs.Sums.{sum-below-same, sum-below_bound, sum-below_more}
use Rattle.matrix.specs.Matrix.{Matrix, matrix_of, part_of, columns_of, ascending, neighbours, adjacent}
use Rattle.matrix.proofs.Matrix.{matrix_facts, neighbours-is}
use Rattle.matrix.proofs.Ascending.{ascending_tail, first-once}
use Rattle.plan.proofs.Once.{Once, once, injective}
use Rattle.run.proofs.OrderSums.{sum-below-order}
use Rattle.upper.specs.Code.Upper.{Positions, Ordered, upper_to, upper_of, later_in, Sizes}
use Rattle.upper.proofs.UpperRows.{beyond, upper_sum}
use Rattle.upper.proofs.PlacedRows.{row_low}
use Rattle.upper.proofs.PositionTable.{table-next}

-- a list of different numbers below n, number by number
different_sum : (t : ℕ → Bool) (n : ℕ) (cs : List ℕ) → ascending cs ≡ true → ((v : ℕ) → is_in cs v ≡ true → v < n) → length (filter t cs) ≡ sum_below (λ v. bit (is_in cs v && t v)) n
different_sum t n [] a low = omega (arith, sum-below_bound (λ v. 0) n 0 (λ v l. omega arith))
different_sum t n (c ∷ cs) a low =
    length-kept (t c) ∙ sym (sum-below_more (λ v. bit (is_in cs v && t v)) (λ v. bit ((eqb v c || is_in cs v) && t v)) (bit (t c)) n c (low c (rw (eq-eqb c c refl) refl)) here other
    ∙ ap (λ (k : ℕ). k + bit (t c)) (sym (different_sum t n cs (ascending_tail c cs a) (λ v h. low v (rw h (or_true (eqb v c)))))))
  where
    length-kept : (b : Bool) → length (keep b c (filter t cs)) ≡ length (filter t cs) + bit b
    length-kept true = omega arith
    length-kept false = omega arith

    here : bit ((eqb c c || is_in cs c) && t c) ≡ bit (is_in cs c && t c) + bit (t c)
    here = rw (eq-eqb c c refl, first-once c cs a) (omega arith)

    other : (v : ℕ) → v ≢ c → bit ((eqb v c || is_in cs v) && t v) ≡ bit (is_in cs v && t v)
    other v d = rw (ne_eqb v c d) refl

module _ (m : Matrix) (order position : List ℕ) (o : Ordered m order) (at : Positions m.n order position) (p : ℕ) (low : p < m.n) where
  abbrev row : ℕ
  row = get_or order p 0

  rows : Once m.n order
  rows = once m.n order o.once

  -- the row at r is a column that stands after p
  test : (r : ℕ) → r < m.n → bit (beyond m order p r) ≡ bit (is_in (columns_of m row) (get_or order r 0) && ltb p (get_or position (get_or order r 0) 0))
  unfolding adjacent
  test r l = rw (at.is r l, neighbours-is m row (get_or order r 0)) (go (ltb p r) refl)
    where
      go : (b : Bool) → ltb p r ≡ b → bit ((is_in (columns_of m row) (get_or order r 0) && not (eqb (get_or order r 0) row)) && b) ≡ bit (is_in (columns_of m row) (get_or order r 0) && b)
      go true e = rw (ne_eqb (get_or order r 0) row (injective m.n order rows r p l low (λ q. omega (arith, ltb-true p r e))), and-true (is_in (columns_of m row) (get_or order r 0)), and-true (is_in (columns_of m row) (get_or order r 0))) refl
      go false e = rw (and_false (is_in (columns_of m row) (get_or order r 0)), and_false (is_in (columns_of m row) (get_or order r 0) && not (eqb (get_or order r 0) row))) refl

  pub size_is : 1 + length (later_in position p (columns_of m row)) ≡ length (upper_of m order p)
  size_is =
      let f = (matrix_facts m o.matrix).row row (row_low m order o p low) in
      let g : ℕ → ℕ = λ v. bit (is_in (columns_of m row) v && ltb p (get_or position v 0)) in
      omega (
        arith,
        upper_sum m order p m.n,
        ap bit (lt-ltb p m.n low),
        sum-below-same (λ r. bit (beyond m order p r)) (λ r. g (get_or order r 0)) m.n test,
        sum-below-order g m.n order rows,
        different_sum (λ v. ltb p (get_or position v 0)) m.n (columns_of m row) f.ascends f.low,
      )

-- ---- column by column

pub byte_le : (b : Bool) → bool_byte b ≤ 1
byte_le true = omega arith
byte_le false = omega arith

module _ (position : List ℕ) (p : ℕ) where
  pub later-next : (cs : List ℕ) (k : ℕ) → k < length cs → length (later_in position p (take k cs)) + bool_byte (ltb p (get_or position (get_or cs k 0) 0)) ≡ length (later_in position p (take (k + 1) cs))
  later-next cs k l =
      rw (
        add-one k,
        take-suc cs k 0 l,
        filter-append (λ i. ltb p (get_or position i 0)) (take k cs) (get_or cs k 0 ∷ []),
        length-append (later_in position p (take k cs)) (later_in position p (get_or cs k 0 ∷ [])),
      )
      (one (ltb p (get_or position (get_or cs k 0) 0)))
    where
      one : (b : Bool) → length (later_in position p (take k cs)) + bool_byte b ≡ length (later_in position p (take k cs)) + length (keep b (get_or cs k 0) [])
      one true = refl
      one false = refl

  pub later-few : (cs : List ℕ) (k : ℕ) → length (later_in position p (take k cs)) ≤ k
  later-few cs k = omega (arith, length-filter-le (λ i. ltb p (get_or position i 0)) (take k cs), length-take k cs)

-- ---- row by row

pub sizes_none : (m : Matrix) (order sizes : List ℕ) → length sizes ≡ max_rows → Sizes m order 0 sizes
sizes_none m order sizes l = record { long = l; is = λ p h. absurd (omega arith) }

pub sizes_next : (m : Matrix) (order : List ℕ) (k : ℕ) → k < max_rows → {v : ℕ} → v ≡ length (upper_of m order k) → {sizes : List ℕ} → Sizes m order k sizes → Sizes m order (k + 1) (set sizes k v)
sizes_next m order k l {v} e {sizes} t =
    let r = table-next 0 (λ p. length (upper_of m order p)) k l sizes t.long t.is v e in
    record { long = r.0; is = r.1 }

-- the numbers are those of every matrix with these rows, whatever its values
pub sizes-any : {n : ℕ} {starts columns : List ℕ} {values values' : List ℤ} {order : List ℕ} {k : ℕ} {sizes : List ℕ} → Sizes (matrix_of n starts columns values) order k sizes
    → Sizes (matrix_of n starts columns values') order k sizes
unfolding upper_to adjacent neighbours columns_of part_of
sizes-any s = record { long = s.long; is = s.is }
