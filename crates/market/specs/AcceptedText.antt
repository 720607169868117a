-- The matrix of an accepted text is a matrix, also where it stands in lent lists: no later call refuses it with 5.
use Rattle.std.specs.Prelude.{◌≡◌, true, List, ℕ, ℤ, length}
use Rattle.base.specs.Replies.{accepted, lent}
use Rattle.matrix.specs.Matrix.{Matrix, is_matrix, matrix_of}
use Rattle.matrix.specs.SameRows.{SameRows}
use Rattle.market.specs.Parse.{Triplet, Parsed, matrix_text, parse}
use Rattle.market.specs.FullRows.{of_triplets, read_matrix, read_reply}

-- what the reader's call leaves in lent lists, as the matrix of n rows that they stand for
unfoldable pub left_in : (n : ℕ) → Parsed → (starts columns : List ℕ) (values : List ℤ) → Matrix
left_in n t starts columns values =
    let reply = read_reply t (length starts) (length columns) (length values) in
    matrix_of n (lent reply (read_matrix t).starts starts) (lent reply (read_matrix t).columns columns) (lent reply (read_matrix t).values values)

pub record AcceptedText : Type 0 where
  -- the full rows of an accepted text are a matrix
  pub matrix : (text : List ℕ) (n : ℕ) (es : List Triplet) → parse text ≡ matrix_text n es → is_matrix (of_triplets n es) ≡ true
  -- so are the lists after a call that accepts it, whatever stands past them: "places past .. are not read"
  pub left : (text : List ℕ) (n k : ℕ) (es : List Triplet) (starts columns : List ℕ) (values : List ℤ) → parse text ≡ matrix_text n es
      → read_reply (parse text) (length starts) (length columns) (length values) ≡ accepted k → SameRows (left_in k (parse text) starts columns values) (of_triplets n es)
