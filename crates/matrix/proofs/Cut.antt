-- Lent lists cut to what a matrix can need: 4,097 row starts, 65,536 columns and values. They are a matrix if the whole
-- lists are, with the same rows.
use mathlib.Core.Path.{◌≡◌, refl, sym, ap, ap₂, ◌∙◌, fun_ext}
use mathlib.Core.Bool.{Bool, true, false, not}
use mathlib.Core.List.{List, map}
use Prim.Native.Nat.{ℕ, suc, ◌≤◌, ◌<◌}
use native.Mathlib.Numerals.{add-one}
use native.Mathlib.Omega.{arith}
use lib.Dec.{eqb, ltb, leb}
use lib.IntN.{ℤ, ◌*ℤ◌}
use lib.ListN.{length, get_or, take, length-take}
use lib.Seq.{get_or-take, take-take, take_all, length-take-le}
use borrow.Author.Tests.{ltb-true, leb-true, leb-false, ne_eqb}
use Rattle.base.specs.Lists.{filter, range}
use Rattle.base.specs.Integers.{sumℤ}
use Rattle.base.proofs.Booleans.{both_ways}
use Rattle.base.proofs.Lists.{all-range, range_all}
use Rattle.matrix.specs.Limits.{max_rows}
use Rattle.matrix.specs.Code.Room.{max_starts, max_cells, Reaches}
use Rattle.std.proofs.lemmas.List.{take_min}
use Rattle.matrix.specs.Matrix.{Matrix, part_of, columns_of, values_of, lookup, entry, neighbours, is_matrix, displacement, are_displacements, displacement_check, matrix_of}
use Rattle.matrix.specs.Code.Checks.{rises, shaped}
use Rattle.matrix.specs.Product.{force_at, product}
use Rattle.matrix.proofs.Matrix.{displacements-many}
use Rattle.matrix.proofs.Checks.{Shape, shape, shape-made, matrix_tidy}
use Rattle.matrix.proofs.Rows.{row_in}
use Rattle.matrix.proofs.Entries.{few-entries}
use Rattle.matrix.proofs.Alike.{alike}

-- the first of them
abbrev pub cut : Matrix → Matrix
cut m = matrix_of m.n (take max_starts m.starts) (take max_cells m.columns) (take max_cells m.values)

-- .. of arrays that reach as far
pub cut-reached : (m : Matrix) {starts columns : List ℕ} {values : List ℤ} (places : ℕ) → Reaches places (length m.columns) → Reaches places (length m.values)
    → starts ≡ take max_starts m.starts → columns ≡ take places m.columns → values ≡ take places m.values → matrix_of m.n starts columns values ≡ cut m
cut-reached m {starts} {columns} {values} places rc rv es ec ev =
    rw (es, ec ∙ reached m.columns rc, ev ∙ reached m.values rv)
  where
    reached : {A : Type 0} (l : List A) → Reaches places (length l) → take places l ≡ take max_cells l
    reached l r = sym (take_min places l) ∙ ap (λ (k : ℕ). take k l) r ∙ take_min max_cells l

-- ---- row starts

start-same : (m : Matrix) → m.n ≤ max_rows → (i : ℕ) → i ≤ m.n → get_or (cut m).starts i 0 ≡ get_or m.starts i 0
start-same m few i l = get_or-take max_starts m.starts i 0 (omega arith)

rises-same : (m : Matrix) → m.n ≤ max_rows → (i : ℕ) → i < m.n → rises (cut m).starts i ≡ rises m.starts i
rises-same m few i l = rw (start-same m few i (omega arith), start-same m few (suc i) l)

module _ (m : Matrix) where
  -- cut, the lists keep their shape if the last row ends in what is left
  cut-shaped : shaped m ≡ true → get_or m.starts m.n 0 ≤ max_cells → shaped (cut m) ≡ true
  cut-shaped h last =
      let s = shape m h in
      let end = start-same m s.few m.n (omega arith) in
      shape-made (cut m) (record {
        some = s.some;
        few = s.few;
        starts-long = rw length-take (omega (arith, s.few, s.starts-long));
        starts_first = start-same m s.few 0 (omega arith) ∙ s.starts_first;
        columns-long = rw (end, length-take) (omega (arith, s.columns-long));
        values-long = rw (end, length-take) (omega (arith, s.values-long));
        rising = range_all (rises (cut m).starts) m.n (λ i l. rises-same m s.few i l ∙ all-range (rises m.starts) m.n i s.rising l);
      })

  module _ (h : shaped (cut m) ≡ true) where
    cut-shape : Shape (cut m)
    cut-shape = shape (cut m) h

    -- the last row ends in what is left
    cut_end : get_or m.starts m.n 0 ≤ max_cells
    cut_end = omega (arith, start-same m cut-shape.few m.n (omega arith), cut-shape.columns-long, length-take max_cells m.columns)

    -- .. and the whole lists have the shape
    uncut_shaped : shaped m ≡ true
    uncut_shaped =
        let s = cut-shape in
        let end = start-same m s.few m.n (omega arith) in
        shape-made m (record {
          some = s.some;
          few = s.few;
          starts-long = omega (arith, s.starts-long, length-take max_starts m.starts);
          starts_first = sym (start-same m s.few 0 (omega arith)) ∙ s.starts_first;
          columns-long = omega (arith, end, s.columns-long, length-take max_cells m.columns);
          values-long = omega (arith, end, s.values-long, length-take max_cells m.values);
          rising = range_all (rises m.starts) m.n (λ i l. sym (rises-same m s.few i l) ∙ all-range (rises (cut m).starts) m.n i s.rising l);
        })

-- ---- rows

-- the part of a list that belongs to row i
part_same : {A : Type 0} (m : Matrix) (xs : List A) → shaped m ≡ true → get_or m.starts m.n 0 ≤ max_cells → (i : ℕ) → part_of (cut m) (take max_cells xs) i ≡ part_of m xs i
unfolding part_of
part_same m xs h last i = go (ltb i m.n) refl
  where
    go : (b : Bool) → ltb i m.n ≡ b → part_of (cut m) (take max_cells xs) i ≡ part_of m xs i
    go true e =
        let l = ltb-true i m.n e in
        let few = (shape m h).few in
        let end : get_or m.starts (suc i) 0 ≤ max_cells = rw (add-one i) at (row_in m h i l max_cells last).ends in
        rw (e, start-same m few i (omega arith), start-same m few (suc i) l, take-take (get_or m.starts (suc i) 0) max_cells xs end)
    go false e = rw e

module _ (m : Matrix) (h : shaped m ≡ true) (last : get_or m.starts m.n 0 ≤ max_cells) where
  columns-kept : columns_of (cut m) ≡ columns_of m
  unfolding columns_of
  columns-kept = fun_ext (part_same m m.columns h last)

  values-kept : values_of (cut m) ≡ values_of m
  unfolding values_of
  values-kept = fun_ext (part_same m m.values h last)

  matrix-kept : is_matrix (cut m) ≡ is_matrix m
  matrix-kept = alike m (cut m).starts (cut m).columns (cut m).values columns-kept values-kept (cut-shaped m h last) h

-- ---- all lists

-- cut, the lists are a matrix if and only if they were
pub cut-matrix : (m : Matrix) → is_matrix (cut m) ≡ is_matrix m
cut-matrix m = both_ways (is_matrix (cut m)) (is_matrix m) down up
  where
    down : is_matrix (cut m) ≡ true → is_matrix m ≡ true
    down ok = let h = (matrix_tidy (cut m) ok).shape in sym (matrix-kept m (uncut_shaped m h) (cut_end m h)) ∙ ok

    up : is_matrix m ≡ true → is_matrix (cut m) ≡ true
    up ok = matrix-kept m (matrix_tidy m ok).shape (few-entries m ok) ∙ ok

-- .. and then with the same rows
module _ (m : Matrix) (ok : is_matrix m ≡ true) where
  -- columns, values, entries
  pub cut-columns : columns_of (cut m) ≡ columns_of m
  cut-columns = columns-kept m (matrix_tidy m ok).shape (few-entries m ok)

  pub cut-values : values_of (cut m) ≡ values_of m
  cut-values = values-kept m (matrix_tidy m ok).shape (few-entries m ok)

  pub cut-entry : entry (cut m) ≡ entry m
  unfolding entry
  cut-entry = ap₂ {C = ℕ → ℕ → ℤ} (λ (cs : ℕ → List ℕ) (vs : ℕ → List ℤ) i j. lookup j (cs i) (vs i)) cut-columns cut-values

  -- adjacent rows
  pub cut-neighbours : neighbours (cut m) ≡ neighbours m
  unfolding neighbours
  cut-neighbours = ap {B = ℕ → List ℕ} (λ (cs : ℕ → List ℕ) i. filter (λ j. not (eqb j i)) (cs i)) cut-columns

  -- forces
  pub cut_product : (x : List ℤ) → product (cut m) x ≡ product m x
  unfolding product force_at
  cut_product x = ap (λ (e : ℕ → ℕ → ℤ). map (λ i. sumℤ (λ j. e i j *ℤ displacement x j) m.n) (range 0 m.n)) cut-entry

-- ---- displacements: a list that is cut to one more than any matrix has rows stays too long

pub cut-displacements : (n : ℕ) (x : List ℤ) → n ≤ max_rows → displacement_check n (take max_starts x) ≡ displacement_check n x
unfolding displacement_check are_displacements
cut-displacements n x few = go (leb (length x) max_starts) refl
  where
    go : (b : Bool) → leb (length x) max_starts ≡ b → displacement_check n (take max_starts x) ≡ displacement_check n x
    go true e = ap (displacement_check n) (take_all max_starts x (leb-true (length x) max_starts e))
    go false e =
        let long = leb-false (length x) max_starts e in
        let size : length (take max_starts x) ≡ max_starts = length-take-le max_starts x (omega arith) in
        rw (size, ne_eqb max_starts n (λ q. omega arith), ne_eqb (length x) n (λ q. omega arith))

-- n displacements are not cut
pub displacements-kept : (n : ℕ) (x : List ℤ) → n ≤ max_rows → are_displacements n x ≡ true → take max_starts x ≡ x
displacements-kept n x few h = take_all max_starts x (omega (arith, displacements-many n x h))
