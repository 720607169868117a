-- What a call leaves in bytes stands for what it made: the calls that come after take it.
use Rattle.std.specs.Prelude.{◌≡◌, true, List, ℕ, suc, ◌/◌, ◌≤◌, ℤ, length, take}
use Rattle.base.specs.Replies.{accepted}
use Rattle.matrix.specs.Matrix.{Matrix, is_matrix}
use Rattle.market.specs.Parse.{parse}
use Rattle.market.specs.FullRows.{read_matrix}
use Rattle.matrix.specs.SameRows.{SameRows}
use Rattle.market.specs.Text.{written, write_reply}
use Rattle.market.specs.WriteThenRead.{size}
use Rattle.plan.specs.Sound.{is_plan, check_reply}
use Rattle.words.specs.LittleEndian.{unsigned, signed}
use Rattle.survey.specs.Survey.{amounts_of, farthest}
use Rattle.upkeep.specs.Upkeep.{new_displacement, new_value, changed, change_reply}
use Rattle.joined.specs.Joined as sewing
use Rattle.lent.specs.Word.{Answered}
use Rattle.lent.specs.Bytes.{matrix_in}
use Rattle.texts.specs.Lent.{read_in, ReadAnswered}
use Rattle.office.specs.Lent.{plan_in, PlanAnswered}
use Rattle.desk.specs.Lent.{survey_in, SurveyAnswered}
use Rattle.site.specs.Lent.{kept_bytes, MovementAnswered, EntryAnswered}
use Rattle.shop.specs.Lent.{join_in, JoinAnswered}

-- a call that reads a text: what it is given, returns and leaves
pub record Reading (text : List ℕ) : Type 0 where
  pub starts : List ℕ
  pub columns : List ℕ
  pub values : List ℕ
  pub returned : ℕ
  pub new_starts : List ℕ
  pub new_columns : List ℕ
  pub new_values : List ℕ
  -- as mzk_read promises
  pub answered : ReadAnswered text starts columns values returned new_starts new_columns new_values

-- the matrix of n rows that its lists stand for then
unfoldable pub matrix_read : (n : ℕ) {text : List ℕ} → Reading text → Matrix
matrix_read n r = matrix_in n r.new_starts r.new_columns r.new_values

-- there is room in its lists for a matrix
pub record RoomFor (m : Matrix) {text : List ℕ} (r : Reading text) : Type 0 where
  pub starts : suc m.n ≤ length r.starts / 4
  pub columns : size m ≤ length r.columns / 4
  pub values : size m ≤ length r.values / 4

pub record ByteLists : Type 0 where
  -- a text that is read leaves its matrix, whatever stands past it: no later call refuses the bytes with 5
  pub read : (text : List ℕ) (r : Reading text) (n : ℕ) → read_in text r.starts r.columns r.values ≡ accepted n → SameRows (matrix_read n r) (read_matrix (parse text))
  -- a matrix that is written, as mzk_write promises, and then read, if both lists have
  -- room: the second call returns its rows and leaves them
  pub written_read : (m : Matrix) → is_matrix m ≡ true → (old : List ℕ) (returned : ℕ) (new : List ℕ) → length (written m) ≤ length old
      → Answered (write_reply m (length old)) (written m) old returned new → (r : Reading (take returned new)) → RoomFor m r → (r.returned ≡ m.n) × SameRows (matrix_read m.n r) m
  -- a plan that is made at k, as mzk_plan promises, passes the check at k in the bytes where it is left, whatever
  -- stands past it; made at 2, 3 or 4 it is a plan for every run: no later call refuses it with 8
  pub planned : (m : Matrix) (workers p k : ℕ) (order groups : List ℕ) (returned : ℕ) (new_order new_groups : List ℕ) → PlanAnswered m workers p k order groups returned new_order new_groups
      → (count : ℕ) → plan_in m workers p k order groups ≡ accepted count
      → (check_reply m (unsigned 4 new_order) (unsigned 4 new_groups) count k ≡ accepted 0) × (2 ≤ k → is_plan m (unsigned 4 new_order) (unsigned 4 new_groups) count ≡ true)
  -- a survey, as mzk_survey promises, leaves in bytes the amounts, and the shift if it returns 1, whatever stands past
  -- them: no number is lost
  pub surveyed : (m : Matrix) (x : List ℤ) (t i : ℕ) (sums moves : List ℕ) (returned : ℕ) (new_sums new_moves : List ℕ) → SurveyAnswered m x t i sums moves returned new_sums new_moves
      → (count : ℕ) → survey_in m x t i sums moves ≡ accepted count → (take m.n (signed 8 new_sums) ≡ amounts_of m t) × (count ≡ 1 → take m.n (signed 4 new_moves) ≡ farthest m t i)
  -- a new movement, as mzk_set_movement promises, leaves in bytes the lists as changed: the next call finds them
  -- current
  pub moved : (m : Matrix) (i : ℕ) (v : ℤ) (movements forces : List ℕ) (returned : ℕ) (new_movements new_forces : List ℕ) → MovementAnswered m (new_displacement i v) movements forces returned new_movements new_forces
      → (count : ℕ) → change_reply (kept_bytes m movements forces) (new_displacement i v) ≡ accepted count → kept_bytes m new_movements new_forces ≡ changed (kept_bytes m movements forces) (new_displacement i v)
  -- a new value, as mzk_set_entry promises, leaves the matrix as changed, whatever stands past it, and its forces
  pub altered : (n : ℕ) (starts columns values : List ℕ) (i j : ℕ) (v : ℤ) (movements forces : List ℕ) (returned : ℕ) (new_values new_forces : List ℕ)
      → EntryAnswered (matrix_in n starts columns values) (new_value i j v) values movements forces returned new_values new_forces
      → (count : ℕ) → change_reply (kept_bytes (matrix_in n starts columns values) movements forces) (new_value i j v) ≡ accepted count
      → SameRows (matrix_in n starts columns new_values) (changed (kept_bytes (matrix_in n starts columns values) movements forces) (new_value i j v)).matrix
      × (signed 8 new_forces ≡ (changed (kept_bytes (matrix_in n starts columns values) movements forces) (new_value i j v)).forces)
  -- two nets sewn together, as mzk_join promises, leave in bytes the joined net, whatever stands past it: no later call
  -- refuses them with 5
  pub joined : (a b : Matrix) (places starts columns values : List ℕ) (returned : ℕ) (new_starts new_columns new_values : List ℕ) → JoinAnswered a b places starts columns values returned new_starts new_columns new_values
      → (n : ℕ) → join_in a b places starts columns values ≡ accepted n → SameRows (matrix_in n new_starts new_columns new_values) (sewing.joined a b places)
