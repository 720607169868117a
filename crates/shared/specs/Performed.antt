-- What a call for both comes to: its answer, and the states after it.
use Rattle.std.specs.Prelude.{◌≡◌, Result, Ok, Err, List, [], ℕ, ℤ}
use Rattle.base.specs.Verdicts.{number_of}
use Rattle.matrix.specs.Matrix.{Matrix}
use Rattle.run.specs.State.{State}
use Rattle.base.specs.declared.Refusal.{Refusal}
use Rattle.calls.specs.declared.Response.{Response}
use Rattle.calls.specs.Performed.{as_answer}
use Rattle.crews.specs.Crews.{Two}
use Rattle.crews.specs.Calls.{picks_both, BothAnswer, one, sets, denied_both, answer_both_lent, after_both_lent}
use Rattle.shared.specs.declared.Sets.{Sets}

-- picks for both in states s on lent lists, with this answer, that leave these states
pub record PicksMade (m : Matrix) (x : Two (List ℤ)) (order groups : List ℕ) (count : ℕ) (s : Two State) (schedule : List ℕ) (answer : Result Response Refusal) (after : Two State) : Type 0 where
  pub answers : one (as_answer answer []) ≡ answer_both_lent m x order groups count s (picks_both schedule)
  pub leaves : after ≡ after_both_lent m x order groups count s (picks_both schedule)

-- the answer to a call for both ready sets
abbrev pub as_sets : Result Sets Refusal → BothAnswer
as_sets (Ok s) = sets (record { of0 = record { bits = s.bits0; count = s.count0 }; of1 = record { bits = s.bits1; count = s.count1 } })
as_sets (Err r) = denied_both (number_of r.kind) r.place
