-- A matrix text is parsed: n and the stored entries in the order of their lines, or a refusal with its line.
use Rattle.std.specs.Prelude.{Bool, true, false, ◌&&◌, not, cond, List, [], ◌∷◌, ◌++◌, ℕ, zero, suc, ◌-◌, leb, ltb, eqb, ℤ, pos, negsuc, length, drop}
use Rattle.base.specs.Lists.{any, is_empty, begins}
use Rattle.base.specs.Integers.{within}
use Rattle.base.specs.Refusals as why
use Rattle.matrix.specs.Limits.{max_rows, max_entries, max_value, max_text}
use Rattle.market.specs.Bytes.{is_end, percent, header}
use Rattle.market.specs.Fields.{Line, line, broken, fields}

-- a stored entry, row and column from 0
pub record Triplet : Type 0 where
  pub row : ℕ
  pub column : ℕ
  pub value : ℤ

abbrev pub triplet : ℕ → ℕ → ℤ → Triplet
triplet r c v = record { row = r; column = c; value = v }

pub data Parsed : Type 0 where
  matrix_text : (n : ℕ) → List Triplet → Parsed
  rejected : (number place : ℕ) → Parsed

abbrev pub is_at : ℕ → ℕ → Triplet → Bool
is_at r c e = eqb e.row r && eqb e.column c

-- "row and column of an earlier line again"
abbrev pub is_among : List Triplet → ℕ → ℕ → Bool
is_among es r c = any (is_at r c) es

-- "numbered from 1, on or below the diagonal"; inside n; value not too large
abbrev pub is_entry : (n r c : ℕ) → ℤ → Bool
is_entry n r c v = leb 1 c && leb c r && leb r n && within max_value v

abbrev pub on_line : Line → Parsed → (ℕ → ℕ → ℤ → ℕ → Parsed) → Parsed
on_line (line r c v a) b f = f r c v a
on_line broken b f = b

-- "as many lines of row, column, value": m are to come, from line k on; es are those before. "Nothing follows the last
-- entry"
unfoldable pub entries : (n m k : ℕ) → List Triplet → List ℕ → Parsed
entries n zero k es xs = cond (is_empty xs) (matrix_text n es) (rejected why.bad_form k)
entries n (suc m) k es xs =
    on_line (fields xs) (rejected why.bad_form k) (λ r c v a.
    cond (is_entry n r c v && not (is_among es (r - 1) (c - 1)))
    (entries n m (suc k) (es ++ triplet (r - 1) (c - 1) v ∷ []) (drop a xs))
    (rejected why.bad_entry k))

-- the size line, line k: "rows differ from columns, or n or the entry count is outside its limits"; only a value may
-- carry a sign
abbrev pub sized : ℕ → ℕ → ℕ → ℤ → List ℕ → Parsed
sized k r c (pos m) xs = cond (eqb r c && leb 1 r && leb r max_rows && leb m max_entries) (entries r m (suc k) [] xs) (rejected why.bad_size k)
sized k r c (negsuc m) xs = rejected why.bad_form k

-- "one line of rows, columns and entry count"
unfoldable pub size_line : ℕ → List ℕ → Parsed
size_line k xs = on_line (fields xs) (rejected why.bad_form k) (λ r c v a. sized k r c v (drop a xs))

-- a line's number and the text from it on
pub record Place : Type 0 where
  pub number : ℕ
  pub text : List ℕ

abbrev pub place : ℕ → List ℕ → Place
place k xs = record { number = k; text = xs }

-- "any lines that begin with `%`" are passed over; inside: in such a line
unfoldable pub comments : (inside : Bool) → ℕ → List ℕ → Place
comments inside k [] = place k []
comments true k (b ∷ bs) = comments (not (is_end b)) (cond (is_end b) (suc k) k) bs
comments false k (b ∷ bs) = let more = comments true k bs in cond (eqb b percent) more (place k (b ∷ bs))

abbrev pub body : Place → Parsed
body a = size_line a.number a.text

-- "Length, then line by line; within a line 2 precedes 3 and 4"
unfoldable pub parse : List ℕ → Parsed
parse xs =
    cond (ltb max_text (length xs)) (rejected why.bad_form 0)
    (cond (begins xs header) (body (comments false 2 (drop (length header) xs)))
    (rejected why.bad_header 1))
