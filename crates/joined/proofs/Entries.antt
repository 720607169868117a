-- The entries of the joined net: which are stored, their values, and that they make a matrix.
use mathlib.Core.Path.{◌≡◌, refl, sym, ap, ap₂, ◌∙◌}
use mathlib.Core.Logic.{◌⊎◌, inl, inr}
use mathlib.Core.Bool.{Bool, true, false, not, ◌||◌, ◌&&◌}
use mathlib.Core.List.{List, map}
use Prim.Native.Nat.{ℕ, ◌<◌}
use native.Mathlib.Omega.{arith}
use lib.Dec.{eqb, leb}
use lib.IntN.{ℤ, pos, ◌+ℤ◌, +ℤ_idr}
use lib.ListN.{get_or}
use borrow.Author.Tests.{eqb-true, eq-eqb, leb-true}
use Rattle.base.specs.Lists.{all, is_in, range, position_of}
use Rattle.base.specs.Integers.{within}
use Rattle.base.proofs.Booleans.{and_left, and_right, or_cases, or_left_false, or_right_false, or_mono, or_false, both_ways, is_false, clash}
use Rattle.base.proofs.Lists.{all_of, all_map, all_pieces, is_in-range, filter-of}
use Rattle.matrix.specs.Limits.{max_rows, max_entries, max_value}
use Rattle.matrix.specs.Matrix.{Matrix, columns_of, entry, adjacent, lower_entries, is_matrix}
use Rattle.matrix.specs.Tabulated.{columns_in, tabulated}
use Rattle.matrix.proofs.Matrix.{matrix_facts, absent_column, column-row, column-low, neighbours-is, symmetric}
use Rattle.matrix.proofs.Tabulated as tab
use Rattle.joined.specs.Joined.{joined_rows, are_places, stored_in, stiffness, joined, in_limits}
use Rattle.joined.proofs.Places.{place_low, from_in, at_from, from_at, first-low}

-- an entry's mirror image is stored
mirror-stored : (m : Matrix) → is_matrix m ≡ true → (i j : ℕ) → is_in (columns_of m i) j ≡ true → is_in (columns_of m j) i ≡ true
mirror-stored m ok i j h = (((matrix_facts m ok).row i (column-row m i j h)).mirror j h).0

module _ (a b : Matrix) (places : List ℕ) (oka : is_matrix a ≡ true) (okb : is_matrix b ≡ true) (h : are_places a b places ≡ true) where
  abbrev m : Matrix
  m = joined a b places

  abbrev rows : ℕ
  rows = joined_rows a places

  abbrev from : ℕ → ℕ
  from = position_of places

  -- ---- which are stored

  -- what either net stores lies in the joined net
  stored_low : (i j : ℕ) → stored_in a b places i j ≡ true → (i < rows) × (j < rows)
  unfolding stored_in
  stored_low i j s = go (or_cases (is_in (columns_of a i) j) (is_in (columns_of b (from i)) (from j)) s)
    where
      go : (is_in (columns_of a i) j ≡ true) ⊎ (is_in (columns_of b (from i)) (from j) ≡ true) → (i < rows) × (j < rows)
      go (inl e) = omega (arith, column-row a i j e, column-low a oka i j e, first-low a b places h)
      go (inr e) =
          (place_low a b places h i (from_in a b places h i (column-row b (from i) (from j) e)), place_low a b places h j (from_in a b places h j (column-low b okb (from i) (from j) e)))

  pub joined-stored : (i j : ℕ) → is_in (columns_of m i) j ≡ stored_in a b places i j
  unfolding joined tabulated
  joined-stored i j = both_ways (is_in (columns_of m i) j) (stored_in a b places i j) down up
    where
      down : is_in (columns_of m i) j ≡ true → stored_in a b places i j ≡ true
      down e =
          let l : i < rows = column-row m i j e in
          sym (tab.tab_stored rows (stored_in a b places) (stiffness a b places) i j l (tab.tab_low rows (stored_in a b places) (stiffness a b places) i j l e)) ∙ e

      up : stored_in a b places i j ≡ true → is_in (columns_of m i) j ≡ true
      up s = let (l, k) = stored_low i j s in tab.tab_stored rows (stored_in a b places) (stiffness a b places) i j l k ∙ s

  pub stored-both : (i j : ℕ) → stored_in a b places i j ≡ true → stored_in a b places j i ≡ true
  unfolding stored_in
  stored-both i j s =
      or_mono (is_in (columns_of a i) j) (is_in (columns_of b (from i)) (from j)) (is_in (columns_of a j) i) (is_in (columns_of b (from j)) (from i))
      (mirror-stored a oka i j) (mirror-stored b okb (from i) (from j)) s

  -- ---- their values

  none-stored : (i j : ℕ) → stored_in a b places i j ≡ false → stiffness a b places i j ≡ pos 0
  unfolding stored_in stiffness
  none-stored i j s =
      let x = is_in (columns_of a i) j in
      let y = is_in (columns_of b (from i)) (from j) in
      rw (absent_column a i j (or_left_false x y s), absent_column b (from i) (from j) (or_right_false x y s)) refl

  pub joined-entry : (i j : ℕ) → entry m i j ≡ stiffness a b places i j
  unfolding joined
  joined-entry i j = go (stored_in a b places i j) refl
    where
      go : (t : Bool) → stored_in a b places i j ≡ t → entry m i j ≡ stiffness a b places i j
      go true s = tab.tab_entry rows (stored_in a b places) (stiffness a b places) i j (stored_low i j s).0 (joined-stored i j ∙ s)
      go false s = absent_column m i j (joined-stored i j ∙ s) ∙ sym (none-stored i j s)

  pub values-both : (i j : ℕ) → stiffness a b places i j ≡ stiffness a b places j i
  unfolding stiffness
  values-both i j = ap₂ (λ (x y : ℤ). x +ℤ y) (symmetric a oka i j) (symmetric b okb (from i) (from j))

  -- ---- a matrix

  module _ (fit : in_limits m ≡ true) where
    few-small : leb rows max_rows && all (within max_value) m.values ≡ true
    unfolding in_limits joined tabulated
    few-small = and_left (leb rows max_rows && all (within max_value) m.values) (leb (lower_entries m) max_entries) fit

    pub small-values : (i j : ℕ) → i < rows → j < rows → stored_in a b places i j ≡ true → within max_value (stiffness a b places i j) ≡ true
    unfolding joined tabulated columns_in
    small-values i j l k s =
        let cs = columns_in rows (stored_in a b places) i in
        let every : all (within max_value) (map (stiffness a b places i) cs) ≡ true =
        all_pieces (within max_value) (λ i. map (stiffness a b places i) (columns_in rows (stored_in a b places) i)) (range 0 rows) i (and_right (leb rows max_rows) (all (within max_value) m.values) few-small) (is_in-range 0 rows i (omega arith) (omega arith)) in
        all_of (λ j. within max_value (stiffness a b places i j)) cs j (sym (all_map (within max_value) (stiffness a b places i) cs) ∙ every) (filter-of (stored_in a b places i) (range 0 rows) j (is_in-range 0 rows j (omega arith) (omega arith)) s)

    pub joined-matrix : is_matrix m ≡ true
    unfolding joined in_limits
    joined-matrix = tab.tab_matrix (record {
      some = omega (arith, (matrix_facts a oka).some, first-low a b places h);
      few = leb-true rows max_rows (and_left (leb rows max_rows) (all (within max_value) m.values) few-small);
      both = λ i j l k s. stored-both i j s;
      equal = values-both;
      small = small-values;
      lower = leb-true (lower_entries m) max_entries (and_right (leb m.n max_rows && all (within max_value) m.values) (leb (lower_entries m) max_entries) fit);
    })

  -- ---- at the second net's places, and elsewhere

  -- where one of two rows is no place the second net stores nothing
  second_none : (i j : ℕ) → is_in places i && is_in places j ≡ false → is_in (columns_of b (from i)) (from j) ≡ false
  second_none i j e =
      is_false
      (λ s. clash {b = is_in places i && is_in places j} (rw (from_in a b places h i (column-row b (from i) (from j) s), from_in a b places h j (column-low b okb (from i) (from j) s))) e)

  pub stored-apart : (i j : ℕ) → is_in places i && is_in places j ≡ false → is_in (columns_of m i) j ≡ is_in (columns_of a i) j
  unfolding stored_in
  stored-apart i j e = joined-stored i j ∙ rw (second_none i j e) (or_false (is_in (columns_of a i) j))

  pub entry-apart : (i j : ℕ) → is_in places i && is_in places j ≡ false → entry m i j ≡ entry a i j
  unfolding stiffness
  entry-apart i j e = joined-entry i j ∙ rw (absent_column b (from i) (from j) (second_none i j e)) (+ℤ_idr (entry a i j))

  module _ (k l : ℕ) (hk : k < b.n) (hl : l < b.n) where
    pub stored-together : is_in (columns_of m (get_or places k 0)) (get_or places l 0) ≡ is_in (columns_of a (get_or places k 0)) (get_or places l 0) || is_in (columns_of b k) l
    unfolding stored_in
    stored-together = joined-stored (get_or places k 0) (get_or places l 0) ∙ rw (from_at a b places h k hk, from_at a b places h l hl)

    pub entry-together : entry m (get_or places k 0) (get_or places l 0) ≡ entry a (get_or places k 0) (get_or places l 0) +ℤ entry b k l
    unfolding stiffness
    entry-together = joined-entry (get_or places k 0) (get_or places l 0) ∙ rw (from_at a b places h k hk, from_at a b places h l hl)

  -- ---- adjacent rows

  -- rows of the joined net that the second net joins are the same exactly where its own rows are
  same_rows : (i j : ℕ) → is_in (columns_of b (from i)) (from j) ≡ true → eqb j i ≡ eqb (from j) (from i)
  same_rows i j s = both_ways (eqb j i) (eqb (from j) (from i)) (λ e. eq-eqb (from j) (from i) (ap from (eqb-true j i e))) back
    where
      back : eqb (from j) (from i) ≡ true → eqb j i ≡ true
      back e =
          let p = at_from a b places h i (column-row b (from i) (from j) s) in
          let q = at_from a b places h j (column-low b okb (from i) (from j) s) in
          eq-eqb j i (sym q ∙ ap (λ (k : ℕ). get_or places k 0) (eqb-true (from j) (from i) e) ∙ p)

  pub joined-adjacent : (i j : ℕ) → adjacent m i j ≡ adjacent a i j || adjacent b (from i) (from j)
  unfolding adjacent stored_in
  joined-adjacent i j =
      neighbours-is m i j ∙ ap (λ (t : Bool). t && not (eqb j i)) (joined-stored i j)
      ∙ go (is_in (columns_of b (from i)) (from j)) refl (is_in (columns_of a i) j) ∙ sym (ap₂ (λ (x y : Bool). x || y) (neighbours-is a i j) (neighbours-is b (from i) (from j)))
    where
      last : (x e : Bool) → (x || true) && e ≡ (x && e) || e
      last true e = sym (idem e)
        where
          idem : (e : Bool) → e || e ≡ e
          idem true = refl
          idem false = refl
      last false e = refl

      go : (y : Bool) → is_in (columns_of b (from i)) (from j) ≡ y → (x : Bool) → (x || y) && not (eqb j i) ≡ (x && not (eqb j i)) || (y && not (eqb (from j) (from i)))
      go true s x = rw (← same_rows i j s) (last x (not (eqb j i)))
      go false s x = rw (or_false x) (sym (or_false (x && not (eqb j i))))
