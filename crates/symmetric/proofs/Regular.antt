-- A regular matrix, whose rows' columns ascend and whose entries are mirrored: what it says, and how it follows from
-- what stands at each place of the lists.
use mathlib.Core.Path.{◌≡◌, refl, sym, ap, ◌∙◌, subst}
use mathlib.Core.Bool.{Bool, true, false, ◌&&◌, and_comm}
use mathlib.Core.List.{List}
use Prim.Native.Nat.{ℕ, suc, ◌+◌, ◌-◌, ◌≤◌, ◌<◌}
use native.Mathlib.Omega.{arith}
use lib.Dec.{ltb, leb}
use lib.IntN.{ℤ, pos}
use lib.ListN.{length, get_or, take}
use lib.Seq.{slice, get_or-drop, get_or-take}
use borrow.Author.Tests.{lt-ltb}
use Rattle.base.specs.Lists.{all, is_in, range}
use Rattle.base.specs.Integers.{within}
use Rattle.base.proofs.Booleans.{and_left, and_right, clash, is_false}
use Rattle.base.proofs.Lists.{all_of, all-range, range_all, get-all}
use Rattle.base.proofs.Left.{all-and}
use Rattle.base.proofs.Integers.{same_refl}
use Rattle.matrix.specs.Limits.{max_entries, max_value}
use Rattle.matrix.specs.Matrix.{Matrix, columns_of, values_of, entry, ascending, mirrored, lower_entries, is_matrix}
use Rattle.matrix.specs.Code.Checks.{shaped, is_ordered, mirrored_row, symmetric}
use Rattle.symmetric.specs.Code.Cursors.{climbing_row, regular, Met}
use Rattle.matrix.proofs.Matrix.{mirror}
use Rattle.matrix.proofs.Checks.{ordered, matrix-parts}
use Rattle.matrix.proofs.Ascending.{ascending-made, is_in-get, lookup-get}
use Rattle.matrix.proofs.Rows.{columns-part, values-part, columns-in, length-columns, values-tiled}

-- ---- rows as parts of the lists

slice_get : {A : Type 0} (f t : ℕ) (l : List A) (q : ℕ) (d : A) → f + q < t → get_or (slice f t l) q d ≡ get_or l (f + q) d
slice_get f t l q d h = get_or-drop f (take t l) q d ∙ get_or-take t l (f + q) d h

module _ (m : Matrix) (j : ℕ) (l : j < m.n) (q : ℕ) (h : get_or m.starts j 0 + q < get_or m.starts (j + 1) 0) where
  -- what stands at place q of row j
  pub column-get : get_or (columns_of m j) q 0 ≡ get_or m.columns (get_or m.starts j 0 + q) 0
  column-get = ap (λ (cs : List ℕ). get_or cs q 0) (columns-part m j l) ∙ slice_get (get_or m.starts j 0) (get_or m.starts (j + 1) 0) m.columns q 0 h

  pub value-get : get_or (values_of m j) q (pos 0) ≡ get_or m.values (get_or m.starts j 0 + q) (pos 0)
  value-get = ap (λ (vs : List ℤ). get_or vs q (pos 0)) (values-part m j l) ∙ slice_get (get_or m.starts j 0) (get_or m.starts (j + 1) 0) m.values q (pos 0) h

-- ---- what it says

module _ (m : Matrix) (g : regular m ≡ true) where
  climbing : (i : ℕ) → i < m.n → climbing_row m i ≡ true
  unfolding regular
  climbing i l = all-range (climbing_row m) m.n i (and_left (all (climbing_row m) (range 0 m.n)) (symmetric m) g) l

  pub ascends : (i : ℕ) → i < m.n → ascending (columns_of m i) ≡ true
  ascends i l = and_left (ascending (columns_of m i)) (all (λ j. ltb j m.n) (columns_of m i)) (climbing i l)

  pub below : (i : ℕ) → i < m.n → all (λ j. ltb j m.n) (columns_of m i) ≡ true
  below i l = and_right (ascending (columns_of m i)) (all (λ j. ltb j m.n) (columns_of m i)) (climbing i l)

  pub mirror-of : (i j : ℕ) → i < m.n → is_in (columns_of m i) j ≡ true → (is_in (columns_of m j) i ≡ true) × (entry m i j ≡ entry m j i)
  unfolding regular symmetric
  mirror-of i j l e =
      let mirrors = and_right (all (climbing_row m) (range 0 m.n)) (symmetric m) g in
      mirror m i j (all_of (mirrored m i) (columns_of m i) j (all-range (mirrored_row m) m.n i mirrors l) e)

  -- j is in row i if i is in row j
  pub both_ways : (i j : ℕ) → i < m.n → j < m.n → is_in (columns_of m i) j ≡ is_in (columns_of m j) i
  both_ways i j a b = go (is_in (columns_of m i) j) refl
    where
      go : (t : Bool) → is_in (columns_of m i) j ≡ t → t ≡ is_in (columns_of m j) i
      go true e = sym (mirror-of i j a e).0
      go false e = sym (is_false (λ f. clash (mirror-of j i b f).0 e))

-- ---- how it follows

-- each row is met to its end
module _ (m : Matrix) (h : shaped m ≡ true) (met : (i : ℕ) → i < m.n → Met m m.n i (get_or m.starts (i + 1) 0)) where
  module _ (i : ℕ) (l : i < m.n) where
    -- place k of row i is in the lists
    inside : (k : ℕ) → k < length (columns_of m i) → get_or m.starts i 0 + k < get_or m.starts (i + 1) 0
    inside k b = omega (arith, length-columns m h i l, (columns-in m h i l).rises)

    column-low : (k : ℕ) → k < length (columns_of m i) → get_or (columns_of m i) k 0 < m.n
    column-low k b = rw (column-get m i l k (inside k b)) ((met i l).below (get_or m.starts i 0 + k) (omega arith) (inside k b))

    row-ascends : ascending (columns_of m i) ≡ true
    row-ascends = ascending-made (columns_of m i) step
      where
        step : (k : ℕ) → suc k < length (columns_of m i) → get_or (columns_of m i) k 0 < get_or (columns_of m i) (suc k) 0
        step k b =
            let e : get_or m.starts i 0 + suc k ≡ get_or m.starts i 0 + k + 1 = omega arith in
            rw (column-get m i l k (inside k (omega arith)), column-get m i l (suc k) (inside (suc k) b), e)
            ((met i l).climbs (get_or m.starts i 0 + k) (omega arith) (omega (arith, inside (suc k) b)))

    -- the entry at place k
    entry_at : (k : ℕ) → k < length (columns_of m i) → entry m i (get_or (columns_of m i) k 0) ≡ get_or m.values (get_or m.starts i 0 + k) (pos 0)
    unfolding entry
    entry_at k b = lookup-get (columns_of m i) (values_of m i) k row-ascends b ∙ value-get m i l k (inside k b)

  -- the entry at place k is mirrored
  mirrored_at : (i : ℕ) (l : i < m.n) (k : ℕ) → k < length (columns_of m i) → mirrored m i (get_or (columns_of m i) k 0) ≡ true
  unfolding mirrored
  mirrored_at i l k b =
      let j = get_or (columns_of m i) k 0 in
      let lj = column-low i l k b in
      let is = column-get m i l k (inside i l k b) in
      let r = (met i l).mirror (get_or m.starts i 0 + k) (omega arith) (inside i l k b) in
      let low : get_or m.starts j 0 ≤ r.place = rw is r.low in
      let high : r.place < get_or m.starts (j + 1) 0 = rw is r.high in
      let q = r.place - get_or m.starts j 0 in
      let e : get_or m.starts j 0 + q ≡ r.place = omega arith in
      let few : q < length (columns_of m j) = omega (arith, length-columns m h j lj) in
      let column : get_or (columns_of m j) q 0 ≡ i = column-get m j lj q (omega arith) ∙ ap (λ (p : ℕ). get_or m.columns p 0) e ∙ r.column in
      let value : entry m i j ≡ entry m j i =
      entry_at i l k b ∙ sym r.value ∙ ap (λ (p : ℕ). get_or m.values p (pos 0)) (sym e) ∙ sym (entry_at j lj q few) ∙ ap (entry m j) column in
      rw (subst (λ (c : ℕ). is_in (columns_of m j) c ≡ true) column (is_in-get (columns_of m j) q few), value) (same_refl (entry m j i))

  pub regular-made : regular m ≡ true
  unfolding regular symmetric
  regular-made =
      rw (
        range_all (climbing_row m) m.n (λ i l. rw (row-ascends i l) (get-all (λ j. ltb j m.n) (columns_of m i) 0 (λ k b. lt-ltb (get_or (columns_of m i) k 0) m.n (column-low i l k b)))),
        range_all (mirrored_row m) m.n (λ i l. get-all (mirrored m i) (columns_of m i) 0 (mirrored_at i l)),
      )

-- ---- the whole check

-- the values up to the last row's end are within their limit
abbrev values_fit : Matrix → Bool
values_fit m = all (within max_value) (take (get_or m.starts m.n 0) m.values)

module _ (m : Matrix) (h : shaped m ≡ true) where
  ordered-parts : ordered m ≡ all (climbing_row m) (range 0 m.n) && values_fit m
  unfolding ordered is_ordered
  ordered-parts =
      all-and (climbing_row m) (λ i. all (within max_value) (values_of m i)) (range 0 m.n)
      ∙ ap (λ (b : Bool). all (climbing_row m) (range 0 m.n) && b) (sym (values-tiled m h (within max_value) m.n (omega arith)))

  matrix-is : is_matrix m ≡ values_fit m && (regular m && leb (lower_entries m) max_entries)
  unfolding regular
  matrix-is =
      matrix-parts m ∙ rw (h, ordered-parts) (go (all (climbing_row m) (range 0 m.n)) (values_fit m) (leb (lower_entries m) max_entries) (symmetric m))
    where
      go : (c v l s : Bool) → c && v && l && s ≡ v && (c && s && l)
      go true true l s = and_comm l s
      go true false l s = refl
      go false true l s = refl
      go false false l s = refl

  -- a value passes its limit, or none does
  pub matrix_large : values_fit m ≡ false → is_matrix m ≡ false
  matrix_large f = matrix-is ∙ rw f

  pub matrix-regular : values_fit m ≡ true → is_matrix m ≡ regular m && leb (lower_entries m) max_entries
  matrix-regular f = matrix-is ∙ rw f
