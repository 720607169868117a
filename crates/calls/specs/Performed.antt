-- A call of the code as the definition's, document 01's numbers and values for each case of its answer, and what it
-- comes to.
use Rattle.std.specs.Prelude.{◌≡◌, Option, Some, None, Result, Ok, Err, List, ℕ, ℤ}
use Rattle.base.specs.Verdicts.{number_of}
use Rattle.base.specs.declared.Refusal.{Refusal}
use Rattle.matrix.specs.Matrix.{Matrix}
use Rattle.run.specs.State.{State}
use Rattle.run.specs.Answers as calls
use Rattle.run.specs.Calls.{answer_lent, after_lent, forces_lent}
use Rattle.calls.specs.declared.Call.{Call}
use Rattle.calls.specs.declared.Call.TheVariants as call
use Rattle.calls.specs.declared.Stop.{Stop}
use Rattle.calls.specs.declared.Response.{Response}
use Rattle.calls.specs.declared.Response.TheVariants as response

-- what is asked, with the lent schedule, or with the length of the lent list of forces
abbrev pub as_call : Call → (schedule : List ℕ) (room : ℕ) → calls.Call
as_call call.Picks schedule room = calls.picks schedule
as_call call.ReadySet schedule room = calls.ready_set
as_call call.ForceList schedule room = calls.force_list room
as_call call.Preview schedule room = calls.preview schedule
as_call call.Rounds schedule room = calls.rounds schedule

-- what ended picks, and the index of the pick that was refused so; 0 and 0: none was
abbrev pub end_number : Option Stop → ℕ
end_number None = 0
end_number (Some s) = number_of s.kind

abbrev pub end_place : Option Stop → ℕ
end_place None = 0
end_place (Some s) = s.place

-- what is answered; forces are those that the call leaves in the lent list
abbrev pub as_answer : Result Response Refusal → (forces : List ℤ) → calls.Answer
as_answer (Ok (response.Picked taken stop)) forces = calls.picked taken (end_number stop) (end_place stop)
as_answer (Ok (response.Ready bits count)) forces = calls.is_ready bits count
as_answer (Ok response.Forces) forces = calls.forces forces
as_answer (Ok (response.Previewed taken stop bits count)) forces = calls.previewed taken (end_number stop) (end_place stop) bits count
as_answer (Err r) forces = calls.denied (number_of r.kind) r.place

-- A call c in state s on lent lists, with old in the list of forces: its answer, the state after it, and the list after
-- it
pub record Performed (m : Matrix) (x : List ℤ) (order groups : List ℕ) (count : ℕ) (s : State) (c : calls.Call) (old : List ℤ) (answer : calls.Answer) (after : State) (new : List ℤ) : Type 0 where
  pub answers : answer ≡ answer_lent m x order groups count s c
  pub leaves : after ≡ after_lent m x order groups count s c
  pub forces : new ≡ forces_lent (answer_lent m x order groups count s c) old
