-- The matrix of a list of stored entries, in full rows; and the reader's whole answer.
use Rattle.std.specs.Prelude.{cond, List, [], ◌∷◌, map, ℕ, ◌+◌, eqb, ℤ, length}
use Rattle.base.specs.Lists.{filter, concat, range}
use Rattle.base.specs.Replies.{Reply, accepted, refused, in_turn, room_for}
use Rattle.matrix.specs.Matrix.{Matrix}
use Rattle.market.specs.Parse.{Triplet, triplet, is_at, Parsed, matrix_text, rejected}

-- "Entry (i, j) is there if (j, i) is": an entry and its mirror image, the diagonal once
abbrev pub both : Triplet → List Triplet
both e = e ∷ cond (eqb e.row e.column) [] (triplet e.column e.row e.value ∷ [])

unfoldable pub full : List Triplet → List Triplet
full es = concat (map both es)

-- what is stored at (i, j) of the full matrix
unfoldable pub cell : List Triplet → ℕ → ℕ → List Triplet
cell es i j = filter (is_at i j) (full es)

-- row i, by ascending column
unfoldable pub row_of : ℕ → List Triplet → ℕ → List Triplet
row_of n es i = concat (map (cell es i) (range 0 n))

-- all rows, one after the other
unfoldable pub rows_of : ℕ → List Triplet → List Triplet
rows_of n es = concat (map (row_of n es) (range 0 n))

-- where each list starts in all of them together, and where the last ends
unfoldable pub starts_from : ℕ → List (List Triplet) → List ℕ
starts_from k [] = k ∷ []
starts_from k (r ∷ rs) = k ∷ starts_from (k + length r) rs

unfoldable pub row_starts : ℕ → List Triplet → List ℕ
row_starts n es = starts_from 0 (map (row_of n es) (range 0 n))

unfoldable pub columns : ℕ → List Triplet → List ℕ
columns n es = map (λ (e : Triplet). e.column) (rows_of n es)

unfoldable pub values : ℕ → List Triplet → List ℤ
values n es = map (λ (e : Triplet). e.value) (rows_of n es)

unfoldable pub of_triplets : ℕ → List Triplet → Matrix
of_triplets n es = record { n = n; starts = row_starts n es; columns = columns n es; values = values n es }

-- the reader's matrix; of a text that is refused there is none
unfoldable pub read_matrix : Parsed → Matrix
read_matrix (matrix_text n es) = of_triplets n es
read_matrix (rejected q p) = of_triplets 0 []

-- The reader's reply: 1, 2, 3, 4, then "9 follows the text". Each list is then `lent` of the reply and read_matrix's
-- list
unfoldable pub read_reply : Parsed → (starts columns values : ℕ) → Reply
read_reply (matrix_text n es) a b c = in_turn refused (room_for (n + 1) a ∷ room_for (length (full es)) b ∷ room_for (length (full es)) c ∷ []) (accepted n)
read_reply (rejected q p) a b c = refused q p
