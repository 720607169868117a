-- A symmetric matrix in full rows, and its displacements (document 01's movements). A row of the matrix is document
-- 01's freedom, adjacent rows are its joined freedoms.
use Rattle.std.specs.Prelude.{Bool, true, not, ◌&&◌, cond, List, [], ◌∷◌, ℕ, suc, eqb, ltb, leb, ℤ, pos, length, get_or}
use Rattle.std.proofs.Math.Seq.{slice}
use Rattle.base.specs.Lists.{filter, all, is_in, range, sum_below, bit}
use Rattle.base.specs.Integers.{within, same}
use Rattle.base.specs.Replies.{Check, check}
use Rattle.base.specs.Refusals as why
use Rattle.matrix.specs.Limits.{max_rows, max_entries, max_value, max_displacement}

-- "The matrix is held in full rows: row starts (the first is 0), ascending columns, values"
pub record Matrix : Type 0 where
  pub n : ℕ
  pub starts : List ℕ
  pub columns : List ℕ
  pub values : List ℤ

-- the matrix of n rows that lent lists stand for
abbrev pub matrix_of : (n : ℕ) (starts columns : List ℕ) (values : List ℤ) → Matrix
matrix_of n starts columns values = record { n = n; starts = starts; columns = columns; values = values }

module _ {ℓ} {A : Type ℓ} where
  -- the part of xs that belongs to row i: "places past n + 1 row starts, the last row's entries .. are not read"
  unfoldable pub part_of : Matrix → List A → ℕ → List A
  part_of m xs i = cond (ltb i m.n) (slice (get_or m.starts i 0) (get_or m.starts (suc i) 0) xs) []

unfoldable pub columns_of : Matrix → ℕ → List ℕ
columns_of m i = part_of m m.columns i

unfoldable pub values_of : Matrix → ℕ → List ℤ
values_of m i = part_of m m.values i

-- the value beside column j; 0 if there is none
unfoldable pub lookup : ℕ → List ℕ → List ℤ → ℤ
lookup j [] vs = pos 0
lookup j (c ∷ cs) [] = pos 0
lookup j (c ∷ cs) (v ∷ vs) = cond (eqb j c) v (lookup j cs vs)

-- entry (i, j), "absent entries as 0", "An absent diagonal counts as 0"
unfoldable pub entry : Matrix → (i j : ℕ) → ℤ
entry m i j = lookup j (columns_of m i) (values_of m i)

-- "Two different freedoms are joined if their entry is stored, even as 0": the rows adjacent to i, ascending
unfoldable pub neighbours : Matrix → ℕ → List ℕ
neighbours m i = filter (λ j. not (eqb j i)) (columns_of m i)

unfoldable pub adjacent : Matrix → (i j : ℕ) → Bool
adjacent m i j = is_in (neighbours m i) j

-- "Two joined freedoms are one joined pair": how many there are
unfoldable pub adjacent_pairs : Matrix → ℕ
adjacent_pairs m = sum_below (λ i. sum_below (λ j. bit (adjacent m i j)) i) m.n

unfoldable pub ascending : List ℕ → Bool
ascending [] = true
ascending (c ∷ []) = true
ascending (c ∷ d ∷ cs) = ltb c d && ascending (d ∷ cs)

-- "Entry (i, j) is there if (j, i) is, with the same value"
unfoldable pub mirrored : Matrix → (i j : ℕ) → Bool
mirrored m i j = is_in (columns_of m j) i && same (entry m i j) (entry m j i)

unfoldable pub is_row : Matrix → ℕ → Bool
is_row m i =
    leb (get_or m.starts i 0) (get_or m.starts (suc i) 0)
    && ascending (columns_of m i) && all (λ j. ltb j m.n) (columns_of m i)
    && all (within max_value) (values_of m i) && all (mirrored m i) (columns_of m i)

-- the stored entries on and below the diagonal
unfoldable pub lower_entries : Matrix → ℕ
lower_entries m = sum_below (λ i. length (filter (λ j. leb j i) (columns_of m i))) m.n

-- "A matrix has n freedoms, 1 to 4,096 .. at most 32,768 stored entries on and below the diagonal"; lists long enough,
-- every row as above
unfoldable pub is_matrix : Matrix → Bool
is_matrix m =
    leb 1 m.n && leb m.n max_rows
    && leb (suc m.n) (length m.starts) && eqb (get_or m.starts 0 0) 0
    && leb (get_or m.starts m.n 0) (length m.columns) && leb (get_or m.starts m.n 0) (length m.values)
    && all (is_row m) (range 0 m.n) && leb (lower_entries m) max_entries

-- "5: lent rows are no matrix as above"
unfoldable pub matrix_check : Matrix → Check
matrix_check m = check why.not_matrix (is_matrix m)

-- the displacement of row j
unfoldable pub displacement : List ℤ → ℕ → ℤ
displacement x j = get_or x j (pos 0)

-- the first place of a list whose number passes the limit; the list's length if none does
unfoldable pub first_past : (limit : ℕ) → List ℤ → ℕ
first_past limit [] = 0
first_past limit (z ∷ zs) = let later = suc (first_past limit zs) in cond (within limit z) later 0

unfoldable pub are_displacements : (n : ℕ) → List ℤ → Bool
are_displacements n x = eqb (length x) n && all (within max_displacement) x

-- "6: movement list has not n numbers (0), or one is too large (its index)"
unfoldable pub displacement_check : (n : ℕ) → List ℤ → Check
displacement_check n x = record { holds = are_displacements n x; number = why.bad_displacement; place = cond (eqb (length x) n) (first_past max_displacement x) 0 }
