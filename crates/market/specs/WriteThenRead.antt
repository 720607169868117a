-- "Reading its text returns the matrix": what holds of every matrix that is written and then read.
use Rattle.std.specs.Prelude.{◌≡◌, true, List, ℕ, suc, ◌≤◌, length, get_or, take}
use Rattle.base.specs.Replies.{accepted, lent}
use Rattle.matrix.specs.Matrix.{Matrix, is_matrix}
use Rattle.market.specs.Parse.{matrix_text, parse}
use Rattle.market.specs.FullRows.{read_matrix, read_reply}
use Rattle.market.specs.Text.{lower, written, write_reply}

-- how many entries its rows have
unfoldable pub size : Matrix → ℕ
size m = get_or m.starts m.n 0

-- the matrix without "places past n + 1 row starts, the last row's entries", which "are not read"
unfoldable pub exactly : Matrix → Matrix
exactly m = record { n = m.n; starts = take (suc m.n) m.starts; columns = take (size m) m.columns; values = take (size m) m.values }

-- of one matrix
pub record SameMatrix (m : Matrix) : Type 0 where
  -- its text is accepted, with the entries on and below the diagonal
  pub parsed : parse (written m) ≡ matrix_text m.n (lower m)
  -- and the matrix that is read is the one that was written
  pub same : read_matrix (parse (written m)) ≡ exactly m
  -- the calls: with room for the text the writer accepts, and the first bytes of the lent list are then the text
  pub writes : (text : List ℕ) → length (written m) ≤ length text
      → (write_reply m (length text) ≡ accepted (length (written m))) × (take (length (written m)) (lent (write_reply m (length text)) (written m) text) ≡ written m)
  -- with room for the matrix the reader accepts that text
  pub reads : (starts columns values : ℕ) → suc m.n ≤ starts → size m ≤ columns → size m ≤ values → read_reply (parse (written m)) starts columns values ≡ accepted m.n

pub record WriteThenRead : Type 0 where
  pub every : (m : Matrix) → is_matrix m ≡ true → SameMatrix m
