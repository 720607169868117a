-- A matrix with a new value for a stored entry and its mirror is a matrix, and has its other entries as they were.
use mathlib.Core.Path.{◌≡◌, refl, sym, ap, ap₂, ◌∙◌}
use mathlib.Core.Bool.{Bool, true, false, ◌||◌, ◌&&◌, cond, and_comm, or_comm}
use Prim.Native.Nat.{ℕ, ◌<◌}
use lib.Dec.{eqb}
use lib.IntN.{ℤ}
use lib.ListN.{length-set}
use Rattle.base.specs.Lists.{is_in}
use Rattle.base.specs.Integers.{within}
use Rattle.matrix.specs.Limits.{max_value}
use Rattle.matrix.specs.Matrix.{Matrix, part_of, columns_of, entry, lower_entries, is_matrix}
use Rattle.matrix.specs.Code.Checks.{shaped}
use Rattle.matrix.proofs.Checks.{matrix_tidy}
use Rattle.matrix.proofs.Matrix.{RowFacts, MatrixFacts, matrix_facts, matrix-made, column-row, symmetric}
use Rattle.upkeep.specs.Upkeep.{with_value}
use Rattle.upkeep.proofs.Put.{put_columns, put_shaped, put_entry, put_all}

-- a test and its mirror image
or-both : (a b : Bool) (v z : ℤ) → cond b v (cond a v z) ≡ cond (a || b) v z
or-both true true v z = refl
or-both true false v z = refl
or-both false b v z = refl

or-mirror : (a b c d : Bool) → a && b || c && d ≡ d && c || b && a
or-mirror a b c d = or_comm (a && b) (c && d) ∙ ap₂ (λ (s t : Bool). s || t) (and_comm c d) (and_comm a b)

module _ (m : Matrix) (ok : is_matrix m ≡ true) (i j : ℕ) (v : ℤ) (c : is_in (columns_of m i) j ≡ true) where
  abbrev one : Matrix
  one = with_value m i j v

  abbrev both : Matrix
  both = with_value one j i v

  facts : MatrixFacts m
  facts = matrix_facts m ok

  whole : shaped m ≡ true
  whole = (matrix_tidy m ok).shape

  mirror-there : is_in (columns_of one j) i ≡ true
  mirror-there = rw (put_columns m i j v j) ((facts.row i (column-row m i j c)).mirror j c).0

  pub alter_columns : (r : ℕ) → columns_of both r ≡ columns_of m r
  alter_columns r = put_columns one j i v r ∙ put_columns m i j v r

  pub alter_entry : (r s : ℕ) → entry both r s ≡ cond (eqb r i && eqb s j || eqb r j && eqb s i) v (entry m r s)
  alter_entry r s =
      put_entry one j i v (put_shaped m i j v whole) mirror-there r s ∙ ap (λ (z : ℤ). cond (eqb r j && eqb s i) v z) (put_entry m i j v whole c r s)
      ∙ or-both (eqb r i && eqb s j) (eqb r j && eqb s i) v (entry m r s)

  alter_symmetric : (r s : ℕ) → entry both r s ≡ entry both s r
  alter_symmetric r s =
      alter_entry r s
      ∙ ap₂ (λ (t : Bool) (z : ℤ). cond t v z) (or-mirror (eqb r i) (eqb s j) (eqb r j) (eqb s i)) (symmetric m ok r s)
      ∙ sym (alter_entry s r)

  module _ (small : within max_value v ≡ true) where
    row_facts : (r : ℕ) → r < m.n → RowFacts both r
    unfolding with_value
    row_facts r l =
        let f = facts.row r l in
        record {
          rises = f.rises;
          ascends = rw (alter_columns r) f.ascends;
          low = λ s h. f.low s (rw (alter_columns r) at h);
          small = put_all one j i v (put_shaped m i j v whole) mirror-there (within max_value) small r (put_all m i j v whole c (within max_value) small r f.small);
          mirror = λ s h. (rw (alter_columns s) (f.mirror s (rw (alter_columns r) at h)).0, alter_symmetric r s);
        }

    pub alter_matrix : is_matrix both ≡ true
    unfolding with_value lower_entries columns_of part_of
    alter_matrix = matrix-made both (record {
      some = facts.some;
      few = facts.few;
      starts_long = facts.starts_long;
      starts_first = facts.starts_first;
      columns_long = facts.columns_long;
      values_long = rw (length-set, length-set) facts.values_long;
      row = row_facts;
      lower = facts.lower;
    })
