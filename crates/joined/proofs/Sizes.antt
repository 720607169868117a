-- How long the joined net's lists are; it has no more entries than both nets together.
use mathlib.Core.Path.{◌≡◌, refl, sym, ap, ◌∙◌}
use mathlib.Core.Bool.{Bool, true, false, ◌||◌, cond}
use mathlib.Core.List.{List, map}
use Prim.Native.Nat.{ℕ, zero, suc, ◌+◌, ◌≤◌}
use native.Mathlib.Numerals.{add-one}
use native.Mathlib.Omega.{arith}
use lib.Dec.{ltb}
use lib.IntN.{ℤ, pos, nat_abs}
use lib.ListN.{length, get_or, length-map}
use borrow.Author.Tests.{ltb-false, le-ltb}
use Rattle.base.specs.Lists.{is_in, range, sum_below, bit, position_of}
use Rattle.base.proofs.Booleans.{is_false}
use Rattle.base.proofs.Counts.{count, out_count, once-length}
use Rattle.base.proofs.Lists.{length-range, map-range-zero}
use Rattle.base.proofs.Pieces.{length_pieces, length-filter-range}
use Rattle.base.proofs.Sums.{sum_same, sum-short, sum_moved, sum-below-same, sum-below-le, sum-below-add, pos_sum}
use Rattle.matrix.specs.Matrix.{Matrix, part_of, columns_of, is_matrix}
use Rattle.matrix.specs.Tabulated.{columns_in, tabulated}
use Rattle.matrix.specs.Code.Room.{max_cells}
use Rattle.matrix.proofs.Matrix.{matrix_facts, column-row, column-low}
use Rattle.matrix.proofs.Checks.{matrix_tidy}
use Rattle.matrix.proofs.Rows.{columns-in, length-columns}
use Rattle.matrix.proofs.Entries.{count-once, few-entries}
use Rattle.joined.specs.Joined.{joined_rows, are_places, stored_in, stiffness, joined}
use Rattle.joined.proofs.Places.{at_low, from_at, at_from, first-low}

-- ---- of a net that is made from its entries

module _ (n : ℕ) (stored : ℕ → ℕ → Bool) (value : ℕ → ℕ → ℤ) where
  abbrev total : ℕ
  total = sum_below (λ i. length (columns_in n stored i)) n

  starts-size : length (tabulated n stored value).starts ≡ suc n
  unfolding tabulated
  starts-size = length-map (range 0 (suc n)) (sum_below (λ i. length (columns_in n stored i))) ∙ length-range 0 (suc n)

  last-start : get_or (tabulated n stored value).starts n 0 ≡ total
  unfolding tabulated
  last-start = map-range-zero (sum_below (λ i. length (columns_in n stored i))) (suc n) n 0 (omega arith)

  columns-size : length (tabulated n stored value).columns ≡ total
  unfolding tabulated
  columns-size = length_pieces (columns_in n stored) n

  values-size : length (tabulated n stored value).values ≡ total
  unfolding tabulated
  values-size =
      length_pieces (λ i. map (value i) (columns_in n stored i)) n
      ∙ sum-below-same (λ i. length (map (value i) (columns_in n stored i))) (λ i. length (columns_in n stored i)) n (λ i l. length-map (columns_in n stored i) (value i))

module _ (a b : Matrix) (places : List ℕ) where
  abbrev rows : ℕ
  rows = joined_rows a places

  abbrev net : Matrix
  net = joined a b places

  pub net_rows : net.n ≡ rows
  unfolding joined tabulated
  net_rows = refl

  pub net_starts : length net.starts ≡ suc rows
  unfolding joined
  net_starts = starts-size rows (stored_in a b places) (stiffness a b places)

  pub net_last : get_or net.starts rows 0 ≡ length net.columns
  unfolding joined
  net_last = last-start rows (stored_in a b places) (stiffness a b places) ∙ sym (columns-size rows (stored_in a b places) (stiffness a b places))

  pub net_values : length net.values ≡ length net.columns
  unfolding joined
  net_values = values-size rows (stored_in a b places) (stiffness a b places) ∙ sym (columns-size rows (stored_in a b places) (stiffness a b places))

  pub net_few : is_matrix net ≡ true → length net.columns ≤ max_cells
  net_few ok = omega (arith, sym net_last, ap (λ (k : ℕ). get_or net.starts k 0) net_rows, few-entries net ok)

-- ---- of a matrix, row by row

row-past : (m : Matrix) (i : ℕ) → m.n ≤ i → length (columns_of m i) ≡ 0
unfolding columns_of part_of
row-past m i l = rw (le-ltb i m.n l) refl

module _ (m : Matrix) (ok : is_matrix m ≡ true) where
  row-once : (i v : ℕ) → count v (columns_of m i) ≤ 1
  row-once i v = go (is_in (columns_of m i) v) refl
    where
      go : (t : Bool) → is_in (columns_of m i) v ≡ t → count v (columns_of m i) ≤ 1
      go true e = count-once (columns_of m i) v ((matrix_facts m ok).row i (column-row m i v e)).ascends
      go false e = omega (arith, out_count v (columns_of m i) e)

  row-size : (i n : ℕ) → m.n ≤ n → sum_below (λ j. bit (is_in (columns_of m i) j)) n ≡ length (columns_of m i)
  row-size i n l =
      sym (length-filter-range (is_in (columns_of m i)) n) ∙ once-length n (columns_of m i) (λ v e. omega (arith, column-low m ok i v e)) (row-once i)

  -- the entries of the rows before k end where row k starts
  rows_end : (k : ℕ) → k ≤ m.n → sum_below (λ i. length (columns_of m i)) k ≡ get_or m.starts k 0
  unfolding sum_below
  rows_end zero l = sym (matrix_facts m ok).starts_first
  rows_end (suc k) l =
      let h = (matrix_tidy m ok).shape in
      rw (← add-one k) (omega (arith, rows_end k (omega arith), length-columns m h k l, (columns-in m h k l).rises))

  rows-size : sum_below (λ i. length (columns_of m i)) m.n ≤ length m.columns
  rows-size = omega (arith, rows_end m.n (omega arith), (matrix_facts m ok).columns_long)

-- ---- of two nets together

either : (s t : Bool) → bit (s || t) ≤ bit s + bit t
either true t = omega arith
either false t = omega arith

module _ (a b : Matrix) (places : List ℕ) (oka : is_matrix a ≡ true) (okb : is_matrix b ≡ true) (h : are_places a b places ≡ true) where
  abbrev from : ℕ → ℕ
  from = position_of places

  -- numbers for the first net's rows, added up over the joined net's
  first-sum : (f : ℕ → ℕ) → ((k : ℕ) → a.n ≤ k → f k ≡ 0) → sum_below f (rows a b places) ≡ sum_below f a.n
  first-sum f none =
      ap nat_abs
      (sym (pos_sum f (rows a b places)) ∙ sum-short (λ i. pos (f i)) a.n (rows a b places) (first-low a b places h) (λ k l. ap pos (none k l)) ∙ pos_sum f a.n)

  -- .. and for the second's, each at its place
  second-sum : (f : ℕ → ℕ) → ((k : ℕ) → b.n ≤ k → f k ≡ 0) → sum_below (λ i. f (from i)) (rows a b places) ≡ sum_below f b.n
  second-sum f none =
      ap nat_abs
      (sym (pos_sum (λ i. f (from i)) (rows a b places))
      ∙ sum_same (λ i. pos (f (from i))) (λ i. cond (ltb (from i) b.n) (pos (f (from i))) (pos 0)) (rows a b places) (λ i l. placed i (ltb (from i) b.n) refl)
      ∙ sym (sum_moved (λ i. pos (f (from i))) (λ k. get_or places k 0) from (rows a b places) b.n (at_low a b places h) (from_at a b places h) (at_from a b places h))
      ∙ sum_same (λ k. pos (f (from (get_or places k 0)))) (λ k. pos (f k)) b.n (λ k l. rw (from_at a b places h k l)) ∙ pos_sum f b.n)
    where
      placed : (i : ℕ) (t : Bool) → ltb (from i) b.n ≡ t → pos (f (from i)) ≡ cond t (pos (f (from i))) (pos 0)
      placed i true e = refl
      placed i false e = ap pos (none (from i) (ltb-false (from i) b.n e))

  -- a row has no more entries than its rows in both nets
  row-sum : (i : ℕ) → length (columns_in (rows a b places) (stored_in a b places) i) ≤ length (columns_of a i) + length (columns_of b (from i))
  unfolding columns_in stored_in
  row-sum i =
      let n = rows a b places in
      let first : ℕ → ℕ = λ j. bit (is_in (columns_of a i) j) in
      let second : ℕ → ℕ = λ k. bit (is_in (columns_of b (from i)) k) in
      let past : (k : ℕ) → b.n ≤ k → is_in (columns_of b (from i)) k ≡ false = λ k l. is_false (λ e. omega (arith, column-low b okb (from i) k e)) in
      omega (
        arith,
        length-filter-range (λ j. is_in (columns_of a i) j || is_in (columns_of b (from i)) (from j)) n,
        sum-below-le (λ j. bit (is_in (columns_of a i) j || is_in (columns_of b (from i)) (from j))) (λ j. first j + second (from j)) n (λ j l. either (is_in (columns_of a i) j) (is_in (columns_of b (from i)) (from j))),
        sum-below-add first (λ j. second (from j)) n,
        row-size a oka i n (first-low a b places h),
        second-sum second (λ k l. ap bit (past k l)),
        row-size b okb (from i) b.n (omega arith),
      )

  pub net_sum : length (joined a b places).columns ≤ length a.columns + length b.columns
  unfolding joined
  net_sum =
      let n = rows a b places in
      let first : ℕ → ℕ = λ i. length (columns_of a i) in
      let second : ℕ → ℕ = λ k. length (columns_of b k) in
      omega (
        arith,
        columns-size n (stored_in a b places) (stiffness a b places),
        sum-below-le (λ i. length (columns_in n (stored_in a b places) i)) (λ i. first i + second (from i)) n (λ i l. row-sum i),
        sum-below-add first (λ i. second (from i)) n,
        first-sum first (row-past a),
        second-sum second (row-past b),
        rows-size a oka,
        rows-size b okb,
      )
