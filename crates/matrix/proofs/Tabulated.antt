-- A matrix made from its entries: its rows, its entries, and what makes it a matrix.
use mathlib.Core.Path.{◌≡◌, refl, sym, ap, ◌∙◌}
use mathlib.Core.Bool.{Bool, true, ◌&&◌}
use mathlib.Core.List.{List, map}
use Prim.Native.Nat.{ℕ, suc, ◌+◌, ◌-◌, ◌≤◌, ◌<◌}
use native.Mathlib.Omega.{arith}
use lib.Dec.{leb}
use lib.IntN.{ℤ}
use lib.ListN.{length, get_or, length-map}
use borrow.Author.Tests.{lt-ltb}
use Rattle.base.specs.Lists.{filter, all, is_in, concat, range, sum_below, bit}
use Rattle.base.specs.Integers.{within}
use Rattle.base.proofs.Lists.{is_in-filter, filter-filter, filter_in, is_in-range, range_in, of-all, all_map, length-range, map-range-zero}
use Rattle.base.proofs.Sums.{sum-below-same}
use Rattle.base.proofs.Pieces.{length_pieces, length-filter-range, pieces_between, slice_between}
use Rattle.matrix.specs.Limits.{max_rows, max_entries, max_value}
use Rattle.matrix.specs.Matrix.{Matrix, part_of, columns_of, values_of, entry, ascending, lower_entries, is_matrix}
use Rattle.matrix.specs.Tabulated.{columns_in, tabulated}
use Rattle.matrix.proofs.Matrix.{lookup-map, matrix-made}
use Rattle.matrix.proofs.Ascending.{ascending_passing}

module _ (n : ℕ) (stored : ℕ → ℕ → Bool) (value : ℕ → ℕ → ℤ) where
  abbrev made : Matrix
  made = tabulated n stored value

  -- ---- its rows

  -- how many entries the rows before row i have
  abbrev before : ℕ → ℕ
  before i = sum_below (λ k. length (columns_in n stored k)) i

  before-none : before 0 ≡ 0
  unfolding sum_below
  before-none = refl

  before-next : (i : ℕ) → before (suc i) ≡ before i + length (columns_in n stored i)
  unfolding sum_below
  before-next i = refl

  start-at : (i : ℕ) → i ≤ n → get_or made.starts i 0 ≡ before i
  unfolding tabulated
  start-at i l = map-range-zero (sum_below (λ k. length (columns_in n stored k))) (suc n) i 0 (omega arith)

  -- pieces as long as the rows: how many elements they have, and row i's
  module _ {A : Type 0} (f : ℕ → List A) (size : (i : ℕ) → length (f i) ≡ length (columns_in n stored i)) where
    pieces_before : (i : ℕ) → length (concat (map f (range 0 i))) ≡ before i
    pieces_before i = length_pieces f i ∙ sum-below-same (λ k. length (f k)) (λ k. length (columns_in n stored k)) i (λ k l. size k)

    row_piece : (i : ℕ) → i < n → part_of made (concat (map f (range 0 n))) i ≡ f i
    unfolding part_of tabulated
    row_piece i l =
        let start : get_or made.starts i 0 ≡ length (concat (map f (range 0 i))) = start-at i (omega arith) ∙ sym (pieces_before i) in
        let end : get_or made.starts (suc i) 0 ≡ length (concat (map f (range 0 i))) + length (f i) = start-at (suc i) l ∙ before-next i ∙ omega (arith, pieces_before i, size i) in
        rw (lt-ltb i n l, start, end, pieces_between f n i l) (slice_between (concat (map f (range 0 i))) (f i) (concat (map f (range (suc i) (n - suc i)))))

  values-size : (i : ℕ) → length (map (value i) (columns_in n stored i)) ≡ length (columns_in n stored i)
  values-size i = length-map (columns_in n stored i) (value i)

  pub tab_columns : (i : ℕ) → i < n → columns_of made i ≡ columns_in n stored i
  unfolding columns_of tabulated
  tab_columns i l = row_piece (columns_in n stored) (λ k. refl) i l

  pub tab_values : (i : ℕ) → i < n → values_of made i ≡ map (value i) (columns_in n stored i)
  unfolding values_of tabulated
  tab_values i l = row_piece (λ k. map (value k) (columns_in n stored k)) values-size i l

  -- ---- its entries

  pub tab_low : (i j : ℕ) → i < n → is_in (columns_of made i) j ≡ true → j < n
  unfolding columns_in
  tab_low i j l h = let r = range_in j 0 n (filter_in (stored i) (range 0 n) j (rw (tab_columns i l) at h)) in omega arith

  -- (i, j) is stored
  pub tab_stored : (i j : ℕ) → i < n → j < n → is_in (columns_of made i) j ≡ stored i j
  unfolding columns_in
  tab_stored i j l k = rw (tab_columns i l) (is_in-filter (stored i) (range 0 n) j ∙ rw (is_in-range 0 n j (omega arith) (omega arith)))

  -- .. and its value
  pub tab_entry : (i j : ℕ) → i < n → is_in (columns_of made i) j ≡ true → entry made i j ≡ value i j
  unfolding entry
  tab_entry i j l h = rw (tab_columns i l, tab_values i l) (lookup-map (value i) (columns_in n stored i) j (rw (tab_columns i l) at h))

  -- how many are on and below the diagonal
  pub tab_lower : lower_entries made ≡ sum_below (λ i. sum_below (λ j. bit (stored i j && leb j i)) n) n
  unfolding lower_entries tabulated columns_in
  tab_lower =
      sum-below-same (λ i. length (filter (λ j. leb j i) (columns_of made i))) (λ i. sum_below (λ j. bit (stored i j && leb j i)) n) n
      (λ i l.
      ap (λ (cs : List ℕ). length (filter (λ j. leb j i) cs)) (tab_columns i l) ∙ ap length (filter-filter (stored i) (λ j. leb j i) (range 0 n))
      ∙ length-filter-range (λ j. stored i j && leb j i) n)

-- ---- when it is a matrix

-- entries that a matrix may have
pub record Entries (n : ℕ) (stored : ℕ → ℕ → Bool) (value : ℕ → ℕ → ℤ) : Type 0 where
  pub some : 1 ≤ n
  pub few : n ≤ max_rows
  pub both : (i j : ℕ) → i < n → j < n → stored i j ≡ true → stored j i ≡ true
  pub equal : (i j : ℕ) → value i j ≡ value j i
  pub small : (i j : ℕ) → i < n → j < n → stored i j ≡ true → within max_value (value i j) ≡ true
  pub lower : lower_entries (tabulated n stored value) ≤ max_entries

module _ {n : ℕ} {stored : ℕ → ℕ → Bool} {value : ℕ → ℕ → ℤ} (g : Entries n stored value) where
  abbrev it : Matrix
  it = tabulated n stored value

  is-stored : (i j : ℕ) → i < n → is_in (columns_of it i) j ≡ true → (j < n) × (stored i j ≡ true)
  is-stored i j l h = let k = tab_low n stored value i j l h in (k, sym (tab_stored n stored value i j l k) ∙ h)

  tab_mirror : (i j : ℕ) → i < n → is_in (columns_of it i) j ≡ true → (is_in (columns_of it j) i ≡ true) × (entry it i j ≡ entry it j i)
  tab_mirror i j l h =
      let (k, s) = is-stored i j l h in
      let back : is_in (columns_of it j) i ≡ true = tab_stored n stored value j i k l ∙ g.both i j l k s in
      (back, tab_entry n stored value i j l h ∙ g.equal i j ∙ sym (tab_entry n stored value j i k back))

  tab_small : (i : ℕ) → i < n → all (within max_value) (values_of it i) ≡ true
  tab_small i l =
      rw (tab_values n stored value i l, all_map (within max_value) (value i) (columns_in n stored i))
      (of-all (λ j. within max_value (value i j)) (columns_in n stored i) (λ j h. let (k, s) = is-stored i j l (rw (tab_columns n stored value i l) h) in g.small i j l k s))

  tab_ascending : (i : ℕ) → i < n → ascending (columns_of it i) ≡ true
  unfolding columns_in
  tab_ascending i l = rw (tab_columns n stored value i l) (ascending_passing (stored i) 0 n)

  tab_rises : (i : ℕ) → i < n → get_or it.starts i 0 ≤ get_or it.starts (suc i) 0
  tab_rises i l = omega (arith, start-at n stored value i (omega arith), start-at n stored value (suc i) l, before-next n stored value i)

  starts-size : length it.starts ≡ suc n
  unfolding tabulated
  starts-size = length-map (range 0 (suc n)) (sum_below (λ k. length (columns_in n stored k))) ∙ length-range 0 (suc n)

  columns-size : length it.columns ≡ before n stored value n
  unfolding tabulated
  columns-size = pieces_before n stored value (columns_in n stored) (λ k. refl) n

  values_size' : length it.values ≡ before n stored value n
  unfolding tabulated
  values_size' = pieces_before n stored value (λ k. map (value k) (columns_in n stored k)) (values-size n stored value) n

  pub tab_matrix : is_matrix it ≡ true
  unfolding tabulated
  tab_matrix =
      let end = start-at n stored value n (omega arith) in
      matrix-made it (record {
        some = g.some;
        few = g.few;
        starts_long = omega (arith, starts-size);
        starts_first = start-at n stored value 0 (omega arith) ∙ before-none n stored value;
        columns_long = omega (arith, columns-size);
        values_long = omega (arith, values_size');
        row = λ i l. record { rises = tab_rises i l; ascends = tab_ascending i l; low = λ j h. (is-stored i j l h).0; small = tab_small i l; mirror = λ j h. tab_mirror i j l h };
        lower = g.lower;
      })
