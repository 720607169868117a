-- What the call that sews two nets together returns, and what it leaves in the lists that it writes.
use Rattle.std.specs.Prelude.{◌≡◌, List, ℕ, ◌/◌, length}
use Rattle.base.specs.Replies.{Reply, lent}
use Rattle.matrix.specs.Matrix.{Matrix}
use Rattle.words.specs.LittleEndian.{unsigned_bytes, signed_bytes}
use Rattle.lent.specs.Word.{word}
use Rattle.joined.specs.Joined.{joined, join_reply}

-- its reply, of lists of four bytes a number
abbrev pub join_in : (a b : Matrix) (places starts columns values : List ℕ) → Reply
join_in a b places starts columns values = join_reply a b places (length starts / 4) (length columns / 4) (length values / 4)

-- the call, of two matrices, places and three lists: the returned word, and the lists after it
pub record JoinAnswered (a b : Matrix) (places starts columns values : List ℕ) (returned : ℕ) (new_starts new_columns new_values : List ℕ) : Type 0 where
  pub returns : returned ≡ word (join_in a b places starts columns values)
  pub starts_left : new_starts ≡ lent (join_in a b places starts columns values) (unsigned_bytes 4 (joined a b places).starts) starts
  pub columns_left : new_columns ≡ lent (join_in a b places starts columns values) (unsigned_bytes 4 (joined a b places).columns) columns
  pub values_left : new_values ≡ lent (join_in a b places starts columns values) (signed_bytes 4 (joined a b places).values) values
