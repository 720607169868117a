-- Document 01's matrix texts by what stands in them, and not by how they are read: of the reader's definitions only
-- `parse` and `read_matrix` are named, its two answers.
use Rattle.std.specs.Prelude.{◌≡◌, ◌⊎◌, true, not, List, [], ◌∷◌, ◌++◌, map, ℕ, suc, ◌≤◌, ◌<◌, ℤ, pos, nat_abs, length, get_or, replicate}
use Rattle.base.specs.Lists.{all, is_in, concat}
use Rattle.matrix.specs.Limits.{max_rows, max_entries, max_value, max_text}
use Rattle.matrix.specs.Matrix.{Matrix, columns_of, entry}
use Rattle.market.specs.Bytes.{line_feed, blank, percent, header}
use Rattle.market.specs.Parse.{Triplet, triplet, matrix_text, parse}
use Rattle.market.specs.FullRows.{read_matrix}
use Rattle.market.specs.Text.{natural, integer}

-- how many spaces a line has besides one: between the first two fields, and between the last two
pub record Gaps : Type 0 where
  pub left : ℕ
  pub right : ℕ

-- "one or more spaces"
abbrev pub gap : ℕ → List ℕ
gap k = replicate (suc k) blank

-- "Fields are parted by one or more spaces, none at the ends", "every line ends in one line feed". A number is written
-- in decimal digits with "no needless leading zero"; "only a value may carry `-`, and `-0` is not a number"
abbrev pub spaced_line : Gaps → (first second : ℕ) (third : ℤ) → List ℕ
spaced_line g r c v = natural r ++ (gap g.left ++ (natural c ++ (gap g.right ++ (integer v ++ line_feed ∷ []))))

-- an entry, row and column from 0, and the spaces of its line
pub record Spaced : Type 0 where
  pub entry : Triplet
  pub gaps : Gaps

-- "lines of row, column, value, numbered from 1"
abbrev pub spaced_entry : Spaced → List ℕ
spaced_entry s = spaced_line s.gaps (suc s.entry.row) (suc s.entry.column) s.entry.value

-- a line that begins with `%`, and what comes after it
abbrev pub comment_line : List ℕ → List ℕ
comment_line c = percent ∷ (c ++ line_feed ∷ [])

-- the lines after line 1
pub record Lines : Type 0 where
  pub comments : List (List ℕ)
  pub n : ℕ
  pub gaps : Gaps
  pub entries : List Spaced

-- the entries in the order of their lines
unfoldable pub entries_of : Lines → List Triplet
entries_of t = map (λ (s : Spaced). s.entry) t.entries

-- "Line 1 is .. Then come any lines that begin with `%`, one line of rows, columns and entry count, and as many lines
-- of row, column, value"; "Nothing follows the last entry"
unfoldable pub text_of_lines : Lines → List ℕ
text_of_lines t =
    header ++ (concat (map comment_line t.comments) ++ (spaced_line t.gaps t.n t.n (pos (length t.entries)) ++ concat (map spaced_entry t.entries)))

-- entry number i, from 0
unfoldable pub entry_on : List Triplet → ℕ → Triplet
entry_on es i = get_or es i (triplet 0 0 (pos 0))

-- lines that a text may have
pub record Allowed (t : Lines) : Type 0 where
  -- "every line ends in one line feed": a line that begins with `%` has no other
  pub comments : all (λ (c : List ℕ). not (is_in c line_feed)) t.comments ≡ true
  -- "n freedoms, 1 to 4,096 .. and at most 32,768 stored entries"
  pub some : 1 ≤ t.n
  pub rows : t.n ≤ max_rows
  pub count : length t.entries ≤ max_entries
  -- "on or below the diagonal"; not "outside n", not "value too large"
  pub below : (i : ℕ) → i < length (entries_of t) → (entry_on (entries_of t) i).column ≤ (entry_on (entries_of t) i).row
  pub inside : (i : ℕ) → i < length (entries_of t) → (entry_on (entries_of t) i).row < t.n
  pub small : (i : ℕ) → i < length (entries_of t) → nat_abs (entry_on (entries_of t) i).value ≤ max_value
  -- not "row and column of an earlier line again"
  pub once : (i k : ℕ) → i < k → k < length (entries_of t)
      → (entry_on (entries_of t) i).row ≡ (entry_on (entries_of t) k).row → (entry_on (entries_of t) i).column ≡ (entry_on (entries_of t) k).column → ⊥
  -- "Text is at most 1,048,576 bytes"
  pub short : length (text_of_lines t) ≤ max_text

-- entry (i, j) is stored, with this value
pub record StoredAt (m : Matrix) (i j : ℕ) (v : ℤ) : Type 0 where
  pub there : is_in (columns_of m i) j ≡ true
  pub value : entry m i j ≡ v

-- the matrix of these entries: each is stored as its line says, with its mirror image, and nothing else is
pub record SameEntries (m : Matrix) (n : ℕ) (es : List Triplet) : Type 0 where
  pub rows : m.n ≡ n
  pub stored : (i : ℕ) → i < length es → StoredAt m (entry_on es i).row (entry_on es i).column (entry_on es i).value
  -- "Entry (i, j) is there if (j, i) is, with the same value"
  pub mirrored : (i : ℕ) → i < length es → StoredAt m (entry_on es i).column (entry_on es i).row (entry_on es i).value
  pub only : (r c : ℕ) → is_in (columns_of m r) c ≡ true
      → (i : ℕ) × (i < length es) × ((((entry_on es i).row ≡ r) × ((entry_on es i).column ≡ c)) ⊎ (((entry_on es i).row ≡ c) × ((entry_on es i).column ≡ r)))

pub record Texts : Type 0 where
  -- such a text is read: as its entries
  pub read : (t : Lines) → Allowed t → parse (text_of_lines t) ≡ matrix_text t.n (entries_of t)
  -- and no other
  pub only : (text : List ℕ) (n : ℕ) (es : List Triplet) → parse text ≡ matrix_text n es → (t : Lines) × Allowed t × (text ≡ text_of_lines t) × (n ≡ t.n) × (es ≡ entries_of t)
  -- the matrix that is read has the entries of the lines
  pub matrix : (t : Lines) → Allowed t → SameEntries (read_matrix (parse (text_of_lines t))) t.n (entries_of t)
