-- What the survey's call returns, and what it leaves in the lists that it writes.
use Rattle.std.specs.Prelude.{◌≡◌, List, ℕ, ◌/◌, ℤ, length}
use Rattle.base.specs.Replies.{Reply, lent}
use Rattle.matrix.specs.Matrix.{Matrix}
use Rattle.survey.specs.Survey.{amounts_of, written_shift, survey_reply}
use Rattle.words.specs.LittleEndian.{signed_bytes}
use Rattle.lent.specs.Word.{word}

-- the survey's reply, of amounts of eight bytes and a shift of four bytes a number
abbrev pub survey_in : Matrix → List ℤ → (t i : ℕ) (sums moves : List ℕ) → Reply
survey_in m x t i sums moves = survey_reply m x t i (length sums / 8) (length moves / 4)

-- the survey's call, of a matrix, displacements, an error, a row and two lists: the returned word, and the lists after
-- it
pub record SurveyAnswered (m : Matrix) (x : List ℤ) (t i : ℕ) (sums moves : List ℕ) (returned : ℕ) (new_sums new_moves : List ℕ) : Type 0 where
  pub returns : returned ≡ word (survey_in m x t i sums moves)
  pub amounts_left : new_sums ≡ lent (survey_in m x t i sums moves) (signed_bytes 8 (amounts_of m t)) sums
  pub shift_left : new_moves ≡ lent (survey_in m x t i sums moves) (signed_bytes 4 (written_shift m x t i)) moves
