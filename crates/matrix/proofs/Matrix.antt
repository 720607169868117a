-- What it says that a matrix is one, and its laws: columns below n, adjacent rows both ways, symmetric and small
-- entries.
use mathlib.Core.Path.{◌≡◌, refl, sym, ap, ◌∙◌}
use mathlib.Core.Logic.{◌⊎◌, inl, inr, ◌≢◌}
use mathlib.Core.Bool.{Bool, true, false, not, ◌||◌, ◌&&◌, cond, true≢false}
use mathlib.Core.List.{List, [], ◌∷◌, map}
use Prim.Native.Nat.{ℕ, zero, suc, ◌≤◌, ◌<◌}
use native.Mathlib.Omega.{arith}
use lib.Dec.{eqb, ltb, leb}
use lib.IntN.{ℤ, pos, nat_abs}
use lib.ListN.{length, get_or, set}
use borrow.Author.Tests.{eqb-true, eqb-false, eq-eqb, ne_eqb, leb-true, le-leb, ltb-true, lt-ltb, not-true}
use Rattle.base.specs.Lists.{all, is_in, range, position_of}
use Rattle.base.specs.Integers.{within, same}
use Rattle.base.proofs.Booleans.{and_false, and_left, and_right, or_left_false, or_right_false, clash, same_or, conj_first, conj_at}
use Rattle.base.proofs.Lists.{is_in-filter, all_of, of-all, all-range, range_all}
use Rattle.base.proofs.Integers.{same_true, same_refl}
use Rattle.base.proofs.Graph.{Graph}
use Rattle.matrix.specs.Limits.{max_rows, max_entries, max_value, max_displacement}
use Rattle.matrix.specs.Matrix.{Matrix, part_of, columns_of, values_of, lookup, entry, neighbours, ascending, mirrored, is_row, lower_entries, is_matrix, displacement, are_displacements}

-- ---- a value of a list

-- the value beside a column passes a test that 0 and all values pass
lookup-all : (p : ℤ → Bool) (j : ℕ) (cs : List ℕ) (vs : List ℤ) → p (pos 0) ≡ true → all p vs ≡ true → p (lookup j cs vs) ≡ true
unfolding lookup
lookup-all p j [] vs z h = z
lookup-all p j (c ∷ cs) [] z h = z
lookup-all p j (c ∷ cs) (v ∷ vs) z h = go (eqb j c) (lookup-all p j cs vs z (and_right (p v) (all p vs) h))
  where
    go : (b : Bool) → p (lookup j cs vs) ≡ true → p (cond b v (lookup j cs vs)) ≡ true
    go true ih = and_left (p v) (all p vs) h
    go false ih = ih

-- beside no column there is 0
pub lookup-none : (j : ℕ) (cs : List ℕ) (vs : List ℤ) → is_in cs j ≡ false → lookup j cs vs ≡ pos 0
unfolding lookup
lookup-none j [] vs h = refl
lookup-none j (c ∷ cs) [] h = refl
lookup-none j (c ∷ cs) (v ∷ vs) h = rw (or_left_false (eqb j c) (is_in cs j) h) (lookup-none j cs vs (or_right_false (eqb j c) (is_in cs j) h))

-- the value beside a column stands at the column's position
pub lookup_position : (j : ℕ) (cs : List ℕ) (vs : List ℤ) → length cs ≡ length vs → lookup j cs vs ≡ get_or vs (position_of cs j) (pos 0)
unfolding lookup position_of
lookup_position j [] [] l = refl
lookup_position j [] (v ∷ vs) l = absurd (omega arith)
lookup_position j (c ∷ cs) [] l = absurd (omega arith)
lookup_position j (c ∷ cs) (v ∷ vs) l = go (same_or j c) (lookup_position j cs vs (omega arith))
  where
    go : (j ≡ c) ⊎ (j ≢ c) → lookup j cs vs ≡ get_or vs (position_of cs j) (pos 0) → cond (eqb j c) v (lookup j cs vs) ≡ get_or (v ∷ vs) (cond (eqb c j) 0 (suc (position_of cs j))) (pos 0)
    go (inl e) ih = rw (eq-eqb j c e, eq-eqb c j (sym e))
    go (inr d) ih = rw (ne_eqb j c d, ne_eqb c j (λ e. d (sym e))) ih

-- .. and changes as it does there
pub lookup-set : (c j : ℕ) (cs : List ℕ) (vs : List ℤ) (v : ℤ) → length cs ≡ length vs → is_in cs j ≡ true → lookup c cs (set vs (position_of cs j) v) ≡ cond (eqb c j) v (lookup c cs vs)
unfolding lookup position_of
lookup-set c j [] vs v l h = absurd (true≢false (sym h))
lookup-set c j (x ∷ xs) [] v l h = absurd (omega arith)
lookup-set c j (x ∷ xs) (y ∷ ys) v l h = go (same_or j x) (same_or c j) (lookup-set c j xs ys v (omega arith))
  where
    go : (j ≡ x) ⊎ (j ≢ x) → (c ≡ j) ⊎ (c ≢ j) → (is_in xs j ≡ true → lookup c xs (set ys (position_of xs j) v) ≡ cond (eqb c j) v (lookup c xs ys))
        → lookup c (x ∷ xs) (set (y ∷ ys) (cond (eqb x j) 0 (suc (position_of xs j))) v) ≡ cond (eqb c j) v (cond (eqb c x) y (lookup c xs ys))
    go (inl e) (inl f) ih = rw (eq-eqb x j (sym e), eq-eqb c j f, eq-eqb c x (f ∙ e))
    go (inl e) (inr f) ih = rw (eq-eqb x j (sym e), ne_eqb c j f, ne_eqb c x (λ q. f (q ∙ sym e)))
    go (inr d) o ih =
        let later : is_in xs j ≡ true = rw (ne_eqb j x d) at h in
        rw (ne_eqb x j (λ e. d (sym e)), ih later) (swap o (same_or c x))
      where
        swap : (c ≡ j) ⊎ (c ≢ j) → (c ≡ x) ⊎ (c ≢ x) → cond (eqb c x) y (cond (eqb c j) v (lookup c xs ys)) ≡ cond (eqb c j) v (cond (eqb c x) y (lookup c xs ys))
        swap (inl f) (inl g) = absurd (d (sym f ∙ g))
        swap (inl f) (inr g) = rw (eq-eqb c j f, ne_eqb c x g)
        swap (inr f) g = rw (ne_eqb c j f)

-- the value beside a column, where a function gives the values
pub lookup-map : (f : ℕ → ℤ) (cs : List ℕ) (j : ℕ) → is_in cs j ≡ true → lookup j cs (map f cs) ≡ f j
unfolding lookup
lookup-map f [] j h = absurd (true≢false (sym h))
lookup-map f (c ∷ cs) j h = go (eqb j c) refl (lookup-map f cs j) h
  where
    go : (b : Bool) → eqb j c ≡ b → (is_in cs j ≡ true → lookup j cs (map f cs) ≡ f j) → b || is_in cs j ≡ true → cond b (f c) (lookup j cs (map f cs)) ≡ f j
    go true e ih h = ap f (sym (eqb-true j c e))
    go false e ih h = ih h

-- so does what stands at a place
pub get_d_all : (p : ℤ → Bool) (i : ℕ) (vs : List ℤ) → p (pos 0) ≡ true → all p vs ≡ true → p (get_or vs i (pos 0)) ≡ true
get_d_all p i [] z h = z
get_d_all p zero (v ∷ vs) z h = and_left (p v) (all p vs) h
get_d_all p (suc i) (v ∷ vs) z h = get_d_all p i vs z (and_right (p v) (all p vs) h)

-- ---- any matrix

-- a column of a row that is not stored
pub absent_column : (m : Matrix) (i j : ℕ) → is_in (columns_of m i) j ≡ false → entry m i j ≡ pos 0
unfolding entry
absent_column m i j h = lookup-none j (columns_of m i) (values_of m i) h

-- adjacent to row i: its other columns
pub neighbours-is : (m : Matrix) (i j : ℕ) → is_in (neighbours m i) j ≡ is_in (columns_of m i) j && not (eqb j i)
unfolding neighbours
neighbours-is m i j = is_in-filter (λ u. not (eqb u i)) (columns_of m i) j

-- an adjacent row is a column
pub neighbour_column : (m : Matrix) (i j : ℕ) → is_in (neighbours m i) j ≡ true → is_in (columns_of m i) j ≡ true
neighbour_column m i j h = and_left (is_in (columns_of m i) j) (not (eqb j i)) (sym (neighbours-is m i j) ∙ h)

-- .. and another row
pub neighbour_other : (m : Matrix) (i j : ℕ) → is_in (neighbours m i) j ≡ true → j ≢ i
neighbour_other m i j h = eqb-false j i (not-true (eqb j i) (and_right (is_in (columns_of m i) j) (not (eqb j i)) (sym (neighbours-is m i j) ∙ h)))

-- another column is an adjacent row
pub column_neighbour : (m : Matrix) (i j : ℕ) → is_in (columns_of m i) j ≡ true → j ≢ i → is_in (neighbours m i) j ≡ true
column_neighbour m i j h d = neighbours-is m i j ∙ rw (h, ne_eqb j i d) refl

-- no row is adjacent to itself
pub alone : (m : Matrix) (i : ℕ) → is_in (neighbours m i) i ≡ false
alone m i = neighbours-is m i i ∙ rw (eq-eqb i i refl) (and_false (is_in (columns_of m i) i))

-- the entry of two different rows that are not adjacent is 0
pub absent : (m : Matrix) (i j : ℕ) → i ≢ j → is_in (neighbours m i) j ≡ false → entry m i j ≡ pos 0
absent m i j d h = absent_column m i j (go (is_in (columns_of m i) j) refl)
  where
    go : (b : Bool) → is_in (columns_of m i) j ≡ b → is_in (columns_of m i) j ≡ false
    go true e = absurd (clash (column_neighbour m i j e (λ q. d (sym q))) h)
    go false e = e

-- a row past n holds nothing
pub column-row : (m : Matrix) (i j : ℕ) → is_in (columns_of m i) j ≡ true → i < m.n
unfolding columns_of part_of
column-row m i j h = go (ltb i m.n) refl
  where
    go : (b : Bool) → ltb i m.n ≡ b → i < m.n
    go true e = ltb-true i m.n e
    go false e = let q : false ≡ true = rw e at h in absurd (true≢false (sym q))

-- ---- what is_matrix says

-- of one row
pub record RowFacts (m : Matrix) (i : ℕ) : Type 0 where
  pub rises : get_or m.starts i 0 ≤ get_or m.starts (suc i) 0
  pub ascends : ascending (columns_of m i) ≡ true
  pub low : (j : ℕ) → is_in (columns_of m i) j ≡ true → j < m.n
  pub small : all (within max_value) (values_of m i) ≡ true
  pub mirror : (j : ℕ) → is_in (columns_of m i) j ≡ true → (is_in (columns_of m j) i ≡ true) × (entry m i j ≡ entry m j i)

-- of the matrix
pub record MatrixFacts (m : Matrix) : Type 0 where
  pub some : 1 ≤ m.n
  pub few : m.n ≤ max_rows
  pub starts_long : suc m.n ≤ length m.starts
  pub starts_first : get_or m.starts 0 0 ≡ 0
  pub columns_long : get_or m.starts m.n 0 ≤ length m.columns
  pub values_long : get_or m.starts m.n 0 ≤ length m.values
  pub row : (i : ℕ) → i < m.n → RowFacts m i
  pub lower : lower_entries m ≤ max_entries

-- the tests of a row after the first
abbrev row_tests : Matrix → ℕ → List Bool
row_tests m i = ascending (columns_of m i) ∷ all (λ j. ltb j m.n) (columns_of m i) ∷ all (within max_value) (values_of m i) ∷ all (mirrored m i) (columns_of m i) ∷ []

-- what it says that an entry is mirrored
pub mirror : (m : Matrix) (i j : ℕ) → mirrored m i j ≡ true → (is_in (columns_of m j) i ≡ true) × (entry m i j ≡ entry m j i)
unfolding mirrored
mirror m i j e =
    let stored = is_in (columns_of m j) i in
    let equal = same (entry m i j) (entry m j i) in
    (and_left stored equal e, same_true (entry m i j) (entry m j i) (and_right stored equal e))

row_facts : (m : Matrix) (i : ℕ) → is_row m i ≡ true → RowFacts m i
unfolding is_row
row_facts m i h = record {
  rises = leb-true (get_or m.starts i 0) (get_or m.starts (suc i) 0) (conj_first (leb (get_or m.starts i 0) (get_or m.starts (suc i) 0)) (row_tests m i) h);
  ascends = at 0;
  low = λ j c. ltb-true j m.n (all_of (λ j. ltb j m.n) (columns_of m i) j (at 1) c);
  small = at 2;
  mirror = λ j c. mirror m i j (all_of (mirrored m i) (columns_of m i) j (at 3) c);
}
  where
    at : (k : ℕ) → get_or (row_tests m i) k true ≡ true
    at k = conj_at (leb (get_or m.starts i 0) (get_or m.starts (suc i) 0)) (row_tests m i) h k

abbrev matrix_tests : Matrix → List Bool
matrix_tests m =
    leb m.n max_rows ∷ leb (suc m.n) (length m.starts) ∷ eqb (get_or m.starts 0 0) 0
    ∷ leb (get_or m.starts m.n 0) (length m.columns) ∷ leb (get_or m.starts m.n 0) (length m.values)
    ∷ all (is_row m) (range 0 m.n) ∷ leb (lower_entries m) max_entries ∷ []

-- the test gives all of this
pub matrix_facts : (m : Matrix) → is_matrix m ≡ true → MatrixFacts m
unfolding is_matrix
matrix_facts m h = record {
  some = leb-true 1 m.n (conj_first (leb 1 m.n) (matrix_tests m) h);
  few = leb-true m.n max_rows (at 0);
  starts_long = leb-true (suc m.n) (length m.starts) (at 1);
  starts_first = eqb-true (get_or m.starts 0 0) 0 (at 2);
  columns_long = leb-true (get_or m.starts m.n 0) (length m.columns) (at 3);
  values_long = leb-true (get_or m.starts m.n 0) (length m.values) (at 4);
  row = λ i l. row_facts m i (all-range (is_row m) m.n i (at 5) l);
  lower = leb-true (lower_entries m) max_entries (at 6);
}
  where
    at : (k : ℕ) → get_or (matrix_tests m) k true ≡ true
    at k = conj_at (leb 1 m.n) (matrix_tests m) h k

-- ---- the other way

mirrored-made : (m : Matrix) (i j : ℕ) → (is_in (columns_of m j) i ≡ true) × (entry m i j ≡ entry m j i) → mirrored m i j ≡ true
unfolding mirrored
mirrored-made m i j h = rw (h.0, h.1) (same_refl (entry m j i))

row_made : (m : Matrix) (i : ℕ) → RowFacts m i → is_row m i ≡ true
unfolding is_row
row_made m i f =
    rw (
      le-leb (get_or m.starts i 0) (get_or m.starts (suc i) 0) f.rises,
      f.ascends,
      of-all (λ j. ltb j m.n) (columns_of m i) (λ j h. lt-ltb j m.n (f.low j h)),
      f.small,
      of-all (mirrored m i) (columns_of m i) (λ j h. mirrored-made m i j (f.mirror j h)),
    )

-- all of this is the test
pub matrix-made : (m : Matrix) → MatrixFacts m → is_matrix m ≡ true
unfolding is_matrix
matrix-made m f =
    rw (
      le-leb 1 m.n f.some,
      le-leb m.n max_rows f.few,
      le-leb (suc m.n) (length m.starts) f.starts_long,
      eq-eqb (get_or m.starts 0 0) 0 f.starts_first,
      le-leb (get_or m.starts m.n 0) (length m.columns) f.columns_long,
      le-leb (get_or m.starts m.n 0) (length m.values) f.values_long,
      range_all (is_row m) m.n (λ i l. row_made m i (f.row i l)),
    )
    (le-leb (lower_entries m) max_entries f.lower)

-- ---- its laws

module _ (m : Matrix) (ok : is_matrix m ≡ true) where
  facts : MatrixFacts m
  facts = matrix_facts m ok

  -- a column of a row is below n
  pub column-low : (i j : ℕ) → is_in (columns_of m i) j ≡ true → j < m.n
  column-low i j h = (facts.row i (column-row m i j h)).low j h

  -- adjacent both ways
  pub adjacent-both : (i j : ℕ) → is_in (neighbours m i) j ≡ true → is_in (neighbours m j) i ≡ true
  adjacent-both i j h =
      let c = neighbour_column m i j h in
      column_neighbour m j i ((facts.row i (column-row m i j c)).mirror j c).0 (λ q. neighbour_other m i j h (sym q))

  -- the rows with their adjacent rows are a graph
  pub graph : Graph (neighbours m) m.n
  graph = record {
    below = λ u v h. column-low v u (neighbour_column m v u h);
    both = λ u v h. adjacent-both v u h;
  }

  -- entries (i, j) and (j, i) are equal
  pub symmetric : (i j : ℕ) → entry m i j ≡ entry m j i
  symmetric i j = go (is_in (columns_of m i) j) refl (is_in (columns_of m j) i) refl
    where
      stored : (i j : ℕ) → is_in (columns_of m i) j ≡ true → entry m i j ≡ entry m j i
      stored i j e = ((facts.row i (column-row m i j e)).mirror j e).1

      go : (a : Bool) → is_in (columns_of m i) j ≡ a → (b : Bool) → is_in (columns_of m j) i ≡ b → entry m i j ≡ entry m j i
      go true e b f = stored i j e
      go false e true f = sym (stored j i f)
      go false e false f = absent_column m i j e ∙ sym (absent_column m j i f)

  -- every entry's size is at most the limit
  pub small-entry : (i j : ℕ) → nat_abs (entry m i j) ≤ max_value
  unfolding entry within
  small-entry i j = go (is_in (columns_of m i) j) refl
    where
      go : (b : Bool) → is_in (columns_of m i) j ≡ b → nat_abs (entry m i j) ≤ max_value
      go true e = leb-true (nat_abs (entry m i j)) max_value (lookup-all (within max_value) j (columns_of m i) (values_of m i) refl (facts.row i (column-row m i j e)).small)
      go false e = rw (absent_column m i j e) (leb-true 0 max_value refl)

-- there is a displacement for each row
pub displacements-many : (n : ℕ) (x : List ℤ) → are_displacements n x ≡ true → length x ≡ n
unfolding are_displacements
displacements-many n x ok = eqb-true (length x) n (and_left (eqb (length x) n) (all (within max_displacement) x) ok)

-- every displacement's size is at most the limit
pub small-displacement : (n : ℕ) (x : List ℤ) → are_displacements n x ≡ true → (j : ℕ) → nat_abs (displacement x j) ≤ max_displacement
unfolding displacement within are_displacements
small-displacement n x ok j =
    leb-true (nat_abs (displacement x j)) max_displacement (get_d_all (within max_displacement) j x refl (and_right (eqb (length x) n) (all (within max_displacement) x) ok))
