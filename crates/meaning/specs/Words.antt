-- What the word that a call returns tells: every count and every place has 32 bits, and no refusal has number 0.
use Rattle.std.specs.Prelude.{◌≡◌, true, ◌≢◌, List, ℕ, ◌/◌, ◌%◌, ◌^◌, ◌≤◌, ℤ}
use Rattle.base.specs.Replies.{Reply, accepted, refused}
use Rattle.matrix.specs.Matrix.{Matrix}
use Rattle.matrix.specs.Product.{product_reply}
use Rattle.market.specs.Text.{write_reply}
use Rattle.plan.specs.Sound.{check_reply}
use Rattle.planfile.specs.PlanFiles.{are_bytes}
use Rattle.planfile.specs.Calls.{write_plan_reply, read_plan_reply}
use Rattle.run.specs.Answers.{Call, preview, rounds, Answer, bits_told, count_told}
use Rattle.run.specs.EveryRun.{taken_of}
use Rattle.words.specs.LittleEndian.{signed}
use Rattle.control.specs.ControlNumber.{control_number}
use Rattle.numbers.specs.Lines.{listed}
use Rattle.numbers.specs.Calls.{read_numbers_reply, write_numbers_reply}
use Rattle.lent.specs.Word.{word}
use Rattle.texts.specs.Lent.{read_in}
use Rattle.office.specs.Lent.{plan_in}
use Rattle.survey.specs.Survey.{survey_reply}
use Rattle.board.specs.Unit.{write_unit_reply, read_unit_reply, line_reply, releases_reply}
use Rattle.upkeep.specs.Upkeep.{KeptForces, Change, change_reply}
use Rattle.joined.specs.Joined.{join_reply}
use Rattle.answers.specs.Runs.{Bytes, answer_in, reply_to, preview_word, round_word}
use Rattle.crews.specs.Crews.{Two}
use Rattle.crews.specs.Calls.{picks_both, ready_sets, ReadySet, BothAnswer, one, sets}
use Rattle.quarters.specs.Both.{answer_both_in, reply_to_both}

-- "an accepted call has number 0"
unfoldable pub number_in : Reply → ℕ
number_in (accepted count) = 0
number_in (refused number place) = number

-- a refusal's place, an accepted call's count
unfoldable pub place_in : Reply → ℕ
place_in (accepted count) = count
place_in (refused number place) = place

-- of one reply: its word has the number in the high 32 bits, and the place or the count in the low ones
pub record Told (r : Reply) : Type 0 where
  pub high : word r / 2 ^ 32 ≡ number_in r
  pub low : word r % 2 ^ 32 ≡ place_in r
  pub some : (number place : ℕ) → r ≡ refused number place → 1 ≤ number

-- Q-7: a preview's word has "the number taken", or the place, in bits 0 to 31, "the reason for stopping" in bits 32 to
-- 39, and of "the ready set afterwards" the count in bits 40 to 47 and the bits in 48 to 63; none if it is refused
pub record Foretold (a : Answer) : Type 0 where
  pub low : preview_word a % 2 ^ 32 ≡ place_in (reply_to a)
  pub number : preview_word a / 2 ^ 32 % 2 ^ 8 ≡ number_in (reply_to a)
  pub count : preview_word a / 2 ^ 40 % 2 ^ 8 ≡ count_told a
  pub bits : preview_word a / 2 ^ 48 ≡ bits_told a

-- Q-14: the word of rounds has the moves made, or the place, in bits 0 to 31, the number in bits 32 to 39, and in bits
-- 40 to 63 the moves made, always: none where 5, 6, 8 or 11 refused the call
pub record RoundsTold (a : Answer) : Type 0 where
  pub low : round_word a % 2 ^ 32 ≡ place_in (reply_to a) % 2 ^ 32
  pub number : round_word a / 2 ^ 32 % 2 ^ 8 ≡ number_in (reply_to a)
  pub moves : round_word a / 2 ^ 40 ≡ taken_of a

-- of every reply of every call; picks, ready set, force list and preview are calls of a run
pub record Words : Type 0 where
  pub read : (text starts columns values : List ℕ) → Told (read_in text starts columns values)
  pub write : (m : Matrix) (room : ℕ) → Told (write_reply m room)
  pub product : (m : Matrix) (x : List ℤ) (room : ℕ) → Told (product_reply m x room)
  pub survey : (m : Matrix) (x : List ℤ) (t i amounts_room shift_room : ℕ) → Told (survey_reply m x t i amounts_room shift_room)
  pub set : (k : KeptForces) (c : Change) → Told (change_reply k c)
  pub join : (a b : Matrix) (places : List ℕ) (starts_room columns_room values_room : ℕ) → Told (join_reply a b places starts_room columns_room values_room)
  pub plan : (m : Matrix) (workers p k : ℕ) (order groups : List ℕ) → Told (plan_in m workers p k order groups)
  pub check : (m : Matrix) (order groups : List ℕ) (count k : ℕ) → Told (check_reply m order groups count k)
  pub write_plan : (n : ℕ) (order groups : List ℕ) (count room : ℕ) → Told (write_plan_reply n order groups count room)
  pub read_plan : (plan_file order groups : List ℕ) → Told (read_plan_reply plan_file order groups)
  pub write_unit : (unit : List ℕ) (address : ℕ) → Told (write_unit_reply unit address)
  pub read_unit : (unit : List ℕ) (address : ℕ) → are_bytes unit ≡ true → Told (read_unit_reply unit address)
  pub line : (unit : List ℕ) → Told (line_reply unit)
  pub releases : (unit : List ℕ) → are_bytes unit ≡ true → Told (releases_reply unit)
  pub read_numbers : (text : List ℕ) (room : ℕ) → Told (read_numbers_reply (listed text) room)
  pub write_numbers : (zs : List ℤ) (room : ℕ) → Told (write_numbers_reply zs room)
  pub control : (forces : List ℕ) → Told (accepted (control_number (signed 8 forces)))
  pub run : (m : Matrix) (x : List ℤ) (order groups : List ℕ) (count : ℕ) (state sums : List ℕ) (c : Call) → ((ws : List ℕ) → c ≢ rounds ws) → Told (reply_to (answer_in m x order groups count state sums c))
  pub preview : (m : Matrix) (x : List ℤ) (order groups : List ℕ) (count : ℕ) (state sums ws : List ℕ) → Foretold (answer_in m x order groups count state sums (preview ws))
  pub rounds : (m : Matrix) (x : List ℤ) (order groups : List ℕ) (count : ℕ) (state sums ws : List ℕ) → RoundsTold (answer_in m x order groups count state sums (rounds ws))
  -- so two replies with the same word are the same
  pub one : (r s : Reply) → Told r → Told s → word r ≡ word s → r ≡ s

-- ---- the calls for two crews

-- the word of both ready sets has each crew's bits and each crew's count in bits of their own, and number 0
pub record PartsTold (t : Two ReadySet) (returned : ℕ) : Type 0 where
  pub bits0 : returned % 2 ^ 16 ≡ t.of0.bits
  pub bits1 : returned / 2 ^ 16 % 2 ^ 16 ≡ t.of1.bits
  pub number : returned / 2 ^ 32 % 2 ^ 8 ≡ 0
  pub count0 : returned / 2 ^ 40 % 2 ^ 8 ≡ t.of0.count
  pub count1 : returned / 2 ^ 48 ≡ t.of1.count

-- a refusal's word is told as every other's
abbrev pub SetsTold : BothAnswer → Type 0
SetsTold (one a) = Told (reply_to a)
SetsTold (sets t) = PartsTold t (word (reply_to_both (sets t)))

pub record BothWords : Type 0 where
  pub picks-both : (m : Matrix) (x : Two (List ℤ)) (order groups : List ℕ) (count : ℕ) (b : Two Bytes) (schedule : List ℕ) → Told (reply_to_both (answer_both_in m x order groups count b (picks_both schedule)))
  pub ready-both : (m : Matrix) (x : Two (List ℤ)) (order groups : List ℕ) (count : ℕ) (b : Two Bytes) → SetsTold (answer_both_in m x order groups count b ready_sets)
