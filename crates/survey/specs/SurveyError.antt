-- What holds of every survey error, sentence by sentence (document 02, Q-6).
use Rattle.std.specs.Prelude.{◌≡◌, true, false, List, ℕ, ◌≤◌, ◌<◌, ◌^◌, ℤ, pos, nat_abs, ◌-ℤ◌, length}
use Rattle.base.specs.Lists.{bit}
use Rattle.base.specs.Replies.{accepted, lent}
use Rattle.matrix.specs.Matrix.{Matrix, is_matrix, are_displacements}
use Rattle.matrix.specs.Product.{force_at}
use Rattle.survey.specs.Survey.{max_error, after_shift, is_allowed, has_room, amount, farthest, written_shift, survey_reply}

-- how far a shift moves the force of row i
unfoldable pub moved_by : Matrix → (x shift : List ℤ) → ℕ → ℤ
moved_by m x shift i = force_at m (after_shift m.n x shift) i -ℤ force_at m x i

-- what the call asks of its arguments; amounts_room and shift_room are the lengths of the lists that it writes
pub record CanSurvey (m : Matrix) (x : List ℤ) (t i amounts_room shift_room : ℕ) : Type 0 where
  pub matrix : is_matrix m ≡ true
  pub surveyed : are_displacements m.n x ≡ true
  -- "t from 0 to 1,000,000", "a freedom that the user names"
  pub error : t ≤ max_error
  pub freedom : i < m.n
  -- room for the amounts, and for the shift where one is written
  pub amounts : m.n ≤ amounts_room
  pub shift : has_room t x ≡ true → m.n ≤ shift_room

pub record SurveyError : Type 0 where
  -- "an amount beyond which no allowed shift can move its force"
  pub beyond : (m : Matrix) (x shift : List ℤ) (t : ℕ) → is_allowed m.n t x shift ≡ true → (i : ℕ) → nat_abs (moved_by m x shift i) ≤ amount m t i
  -- "Where every surveyed movement, without sign, plus t is at most 1,000,000, some allowed shift reaches it": the one
  -- that is written
  pub allowed : (m : Matrix) (x : List ℤ) (t : ℕ) → are_displacements m.n x ≡ true → has_room t x ≡ true → (i : ℕ) → is_allowed m.n t x (farthest m t i) ≡ true
  pub reached : (m : Matrix) (x : List ℤ) (t i : ℕ) → moved_by m x (farthest m t i) i ≡ pos (amount m t i)
  -- "Otherwise the amounts alone are given and the list for the shift, however short, is unchanged"
  pub alone : (m : Matrix) (x : List ℤ) (t i room : ℕ) (shift : List ℤ) → has_room t x ≡ false
      → (survey_reply m x t i room (length shift) ≡ survey_reply m x t i room 0) × (lent (survey_reply m x t i room (length shift)) (written_shift m x t i) shift ≡ shift)
  -- a call is accepted just then, and tells whether a shift is written
  pub accepts : (m : Matrix) (x : List ℤ) (t i amounts_room shift_room : ℕ) → CanSurvey m x t i amounts_room shift_room → survey_reply m x t i amounts_room shift_room ≡ accepted (bit (has_room t x))
  pub only_then : (m : Matrix) (x : List ℤ) (t i amounts_room shift_room k : ℕ) → survey_reply m x t i amounts_room shift_room ≡ accepted k → CanSurvey m x t i amounts_room shift_room
  -- the amounts fit 64 bits
  pub fits : (m : Matrix) (t : ℕ) → is_matrix m ≡ true → t ≤ max_error → (i : ℕ) → amount m t i < 2 ^ 63
