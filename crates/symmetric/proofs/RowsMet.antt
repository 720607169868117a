-- The pass over the rows with their cursors: what it has found, and what its answer says.
use mathlib.Core.Path.{◌≡◌, refl, ap, fun_ext}
use mathlib.Core.Bool.{Bool, true, false, ◌&&◌}
use mathlib.Core.List.{List}
use Prim.Native.Nat.{ℕ, ◌+◌, ◌-◌, ◌≤◌, ◌<◌}
use native.Mathlib.Numerals.{add-one}
use native.Mathlib.Omega.{arith}
use lib.Dec.{ltb, leb, leb-suc-suc}
use lib.ListN.{length, get_or}
use borrow.Author.Tests.{le-leb, lt-leb, eqb-true, eq-eqb}
use Rattle.base.specs.Lists.{all, filter, range, sum_below}
use Rattle.base.proofs.Booleans.{and_left, both_ways}
use Rattle.base.proofs.Lists.{all-range, range_all, all_of, filter-all}
use Rattle.matrix.specs.Limits.{max_entries}
use Rattle.matrix.specs.Matrix.{Matrix, columns_of, lower_entries}
use Rattle.matrix.specs.Code.Checks.{shaped, place_in}
use Rattle.symmetric.specs.Code.Cursors.{regular, Met, Cursors, ended}
use Rattle.matrix.proofs.Rows.{columns-in, length-columns}
use Rattle.symmetric.proofs.Regular.{below, regular-made}

-- how many entries of row i stand on and below the diagonal
abbrev lower_of : Matrix → ℕ → ℕ
lower_of m i = length (filter (λ j. leb j i) (columns_of m i))

lower-place : (m : Matrix) (i : ℕ) → place_in (columns_of m i) (i + 1) ≡ lower_of m i
unfolding place_in
lower-place m i =
    let same = fun_ext {f = λ j. ltb j (i + 1)} {g = λ j. leb j i} (λ j. rw (add-one i) (leb-suc-suc j i)) in
    ap (λ (t : ℕ → Bool). length (filter t (columns_of m i))) same

-- the rows below i are met; in a regular matrix so many of their entries stand on and below the diagonal
pub record RowsMet (m : Matrix) (lower i : ℕ) (cursors : List ℕ) : Type 0 where
  pub here : i ≤ m.n
  pub placed : Cursors m i cursors
  pub bounded : lower ≤ get_or m.starts i 0
  pub counted : regular m ≡ true → lower ≡ sum_below (lower_of m) i

pub rows_none : (m : Matrix) {cursors : List ℕ} → m.n ≤ length cursors → RowsMet m 0 0 cursors
unfolding sum_below
rows_none m long = record {
  here = omega arith;
  placed = record { size = long; met = λ j l. absurd (omega arith); exact = λ g j l. absurd (omega arith) };
  bounded = omega arith;
  counted = λ g. refl;
}

-- row i is met too
pub rows_next : (m : Matrix) {lower i : ℕ} {old cursors : List ℕ} → RowsMet m lower i old → i < m.n → Cursors m (i + 1) cursors
    → RowsMet m (lower + (get_or cursors i 0 - get_or m.starts i 0)) (i + 1) cursors
unfolding sum_below
rows_next m {lower} {i} r l c =
    let t = c.met i (omega arith) in
    record {
      here = omega arith;
      placed = c;
      bounded = omega (arith, r.bounded, t.low, t.high);
      counted = λ g. rw (add-one i) (omega (arith, r.counted g, c.exact g i (omega arith), lower-place m i));
    }

-- all rows are met
module _ (m : Matrix) (h : shaped m ≡ true) {lower i : ℕ} {cursors : List ℕ} (r : RowsMet m lower i cursors) (last : m.n ≤ i) where
  count : regular m ≡ true → lower ≡ lower_entries m
  unfolding lower_entries
  count g = let e : i ≡ m.n = omega (arith, r.here) in rw e at (r.counted g)

  -- there are too many entries on and below the diagonal
  pub rows-many : max_entries < lower → regular m && leb (lower_entries m) max_entries ≡ false
  rows-many b = go (regular m) refl
    where
      go : (t : Bool) → regular m ≡ t → t && leb (lower_entries m) max_entries ≡ false
      go true g = lt-leb (lower_entries m) max_entries (omega (arith, count g))
      go false g = refl

  -- in a regular matrix each cursor has reached its row's end
  regular-ended : regular m ≡ true → (j : ℕ) → j < m.n → ended m.starts cursors j ≡ true
  unfolding place_in
  regular-ended g j b =
      let cs = columns_of m j in
      let e : i ≡ m.n = omega (arith, r.here) in
      let exact = rw e at (r.placed.exact g j (omega arith)) in
      let full : filter (λ x. ltb x m.n) cs ≡ cs = filter-all (λ x. ltb x m.n) cs (λ v u. all_of (λ x. ltb x m.n) cs v (below m g j b) u) in
      eq-eqb (get_or cursors j 0) (get_or m.starts (j + 1) 0) (omega (arith, exact, ap length full, length-columns m h j b, (columns-in m h j b).rises))

  ended-met : all (ended m.starts cursors) (range 0 m.n) ≡ true → (j : ℕ) → j < m.n → Met m m.n j (get_or m.starts (j + 1) 0)
  ended-met f j b =
      let e : i ≡ m.n = omega (arith, r.here) in
      let end = eqb-true (get_or cursors j 0) (get_or m.starts (j + 1) 0) (all-range (ended m.starts cursors) m.n j f b) in
      rw (e, end) at (r.placed.met j (omega arith))

  pub rows_all : lower ≤ max_entries → all (ended m.starts cursors) (range 0 m.n) ≡ regular m && leb (lower_entries m) max_entries
  rows_all few = both_ways (all (ended m.starts cursors) (range 0 m.n)) (regular m && leb (lower_entries m) max_entries)
      (λ f. let g = regular-made m h (ended-met f) in rw g (le-leb (lower_entries m) max_entries (omega (arith, count g))))
      (λ f. range_all (ended m.starts cursors) m.n (regular-ended (and_left (regular m) (leb (lower_entries m) max_entries) f)))
