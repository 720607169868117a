-- What the reader's call returns, and what it leaves in each list.
use Rattle.std.specs.Prelude.{◌≡◌, List, ℕ, ◌/◌, length}
use Rattle.base.specs.Replies.{Reply, lent}
use Rattle.market.specs.Parse.{parse}
use Rattle.market.specs.FullRows.{read_matrix, read_reply}
use Rattle.words.specs.LittleEndian.{unsigned_bytes, signed_bytes}
use Rattle.lent.specs.Word.{word}

-- the reader's reply, of lists of four bytes a number
abbrev pub read_in : (text starts columns values : List ℕ) → Reply
read_in text starts columns values = read_reply (parse text) (length starts / 4) (length columns / 4) (length values / 4)

-- the reader's call, of a text and three lists: the returned word, and the lists after it
pub record ReadAnswered (text starts columns values : List ℕ) (returned : ℕ) (new_starts new_columns new_values : List ℕ) : Type 0 where
  pub returns : returned ≡ word (read_in text starts columns values)
  pub starts_left : new_starts ≡ lent (read_in text starts columns values) (unsigned_bytes 4 (read_matrix (parse text)).starts) starts
  pub columns_left : new_columns ≡ lent (read_in text starts columns values) (unsigned_bytes 4 (read_matrix (parse text)).columns) columns
  pub values_left : new_values ≡ lent (read_in text starts columns values) (signed_bytes 4 (read_matrix (parse text)).values) values
