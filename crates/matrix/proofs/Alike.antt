-- Lists of the same shape with the same rows are a matrix both or neither: so is a matrix with anything after it in its
-- lists.
use mathlib.Core.Path.{◌≡◌, refl, sym, ap, ap₂, ◌∙◌, fun_ext}
use mathlib.Core.Bool.{Bool, true, false, ◌&&◌}
use mathlib.Core.List.{List, ◌++◌}
use Prim.Native.Nat.{ℕ, suc, ◌≤◌}
use native.Mathlib.Numerals.{add-one}
use native.Mathlib.Omega.{arith}
use lib.Dec.{ltb, leb}
use lib.IntN.{ℤ}
use lib.ListN.{length, get_or, take, drop, length-append, get_or-append}
use lib.Seq.{take-append-le}
use borrow.Author.Tests.{ltb-true}
use Rattle.base.specs.Lists.{filter, all, is_in, range, sum_below}
use Rattle.base.specs.Integers.{same}
use Rattle.base.specs.Replies.{Reply, accepted, lent}
use Rattle.base.proofs.Lists.{all-range, range_all}
use Rattle.matrix.specs.Limits.{max_entries}
use Rattle.matrix.specs.Matrix.{Matrix, part_of, columns_of, values_of, lookup, entry, mirrored, lower_entries, is_matrix, matrix_of}
use Rattle.matrix.specs.Code.Checks.{rises, shaped, is_ordered, symmetric}
use Rattle.matrix.specs.SameRows.{SameRows}
use Rattle.matrix.specs.Left.{matrix_left}
use Rattle.matrix.proofs.Checks.{ordered, Shape, shape, shape-made, matrix-parts, matrix_tidy}
use Rattle.matrix.proofs.Rows.{row_in}

-- ---- the same rows

-- what a matrix is asked of its rows, besides its shape
abbrev in_order : ℕ → (ℕ → List ℕ) → (ℕ → List ℤ) → Bool
in_order n columns values = all (λ i. is_ordered n (columns i) (values i)) (range 0 n) && leb (sum_below (λ i. length (filter (λ j. leb j i) (columns i))) n) max_entries

abbrev mirrors : ℕ → (ℕ → List ℕ) → (ℕ → List ℤ) → Bool
mirrors n columns values =
    all (λ i. all (λ j. is_in (columns j) i && same (lookup j (columns i) (values i)) (lookup i (columns j) (values j))) (columns i)) (range 0 n)

module _ (m : Matrix) (starts columns : List ℕ) (values : List ℤ) where
  abbrev other : Matrix
  other = matrix_of m.n starts columns values

  module _ (e : columns_of other ≡ columns_of m) (f : values_of other ≡ values_of m) where
    order_same : ordered other && leb (lower_entries other) max_entries ≡ ordered m && leb (lower_entries m) max_entries
    unfolding ordered lower_entries
    order_same = ap₂ (in_order m.n) e f

    symmetry_same : symmetric other ≡ symmetric m
    unfolding symmetric mirrored entry
    symmetry_same = ap₂ (mirrors m.n) e f

    pub alike : shaped other ≡ true → shaped m ≡ true → is_matrix other ≡ is_matrix m
    alike h k = matrix-parts other ∙ rw (h, order_same, symmetry_same) (sym (matrix-parts m ∙ rw k))

-- ---- anything after the lists

-- a part of a list, with anything after it
slice_append : {A : Type 0} (a e : ℕ) (xs ys : List A) → e ≤ length xs → drop a (take e (xs ++ ys)) ≡ drop a (take e xs)
slice_append a e xs ys l = ap (drop a) (take-append-le e xs ys l)

module _ (m : Matrix) (ok : is_matrix m ≡ true) (xs ys : List ℕ) (zs : List ℤ) where
  abbrev pub followed : Matrix
  followed = matrix_of m.n (m.starts ++ xs) (m.columns ++ ys) (m.values ++ zs)

  its : Shape m
  its = shape m (matrix_tidy m ok).shape

  start-kept : (i : ℕ) → i ≤ m.n → get_or (m.starts ++ xs) i 0 ≡ get_or m.starts i 0
  start-kept i l = get_or-append m.starts xs 0 i (omega (arith, its.starts-long))

  followed_shaped : shaped followed ≡ true
  followed_shaped =
      let end = start-kept m.n (omega arith) in
      shape-made followed (record {
        some = its.some;
        few = its.few;
        starts-long = rw length-append (omega (arith, its.starts-long));
        starts_first = start-kept 0 (omega arith) ∙ its.starts_first;
        columns-long = rw (end, length-append) (omega (arith, its.columns-long));
        values-long = rw (end, length-append) (omega (arith, its.values-long));
        rising = range_all (rises (m.starts ++ xs)) m.n (λ i l. rw (start-kept i (omega arith), start-kept (suc i) l) (all-range (rises m.starts) m.n i its.rising l));
      })

  part-kept : {A : Type 0} (us ws : List A) → get_or m.starts m.n 0 ≤ length us → (i : ℕ) → part_of followed (us ++ ws) i ≡ part_of m us i
  unfolding part_of
  part-kept us ws long i = go (ltb i m.n) refl
    where
      go : (b : Bool) → ltb i m.n ≡ b → part_of followed (us ++ ws) i ≡ part_of m us i
      go true e =
          let l = ltb-true i m.n e in
          let end : get_or m.starts (suc i) 0 ≤ length us = rw (add-one i) at (row_in m (matrix_tidy m ok).shape i l (length us) long).ends in
          rw (e, start-kept i (omega arith), start-kept (suc i) l) (slice_append (get_or m.starts i 0) (get_or m.starts (suc i) 0) us ws end)
      go false e = rw e

  pub followed_rows : SameRows followed m
  unfolding columns_of values_of
  followed_rows = record {
    matrix = alike m followed.starts followed.columns followed.values (fun_ext (part-kept m.columns ys its.columns-long)) (fun_ext (part-kept m.values zs its.values-long)) followed_shaped (matrix_tidy m ok).shape ∙ ok;
    columns = part-kept m.columns ys its.columns-long;
    values = part-kept m.values zs its.values-long;
  }

-- ---- the lists that an accepted call leaves

pub left-rows : (m : Matrix) → is_matrix m ≡ true → (r : Reply) (k : ℕ) → r ≡ accepted k → (starts columns : List ℕ) (values : List ℤ) → SameRows (matrix_left r m starts columns values) m
unfolding matrix_left lent
left-rows m ok r k e starts columns values = rw e (followed_rows m ok (drop (length m.starts) starts) (drop (length m.columns) columns) (drop (length m.values) values))
