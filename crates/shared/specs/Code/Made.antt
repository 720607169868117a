-- What picks for both on an accepted roof come to.
use Rattle.std.specs.Prelude.{◌≡◌, Result, List, [], ℕ}
use Rattle.run.specs.State.{State}
use Rattle.base.specs.declared.Refusal.{Refusal}
use Rattle.calls.specs.declared.Response.{Response}
use Rattle.calls.specs.Performed.{as_answer}
use Rattle.crews.specs.Crews.{Two, Roof}
use Rattle.crews.specs.Calls.{picks_both, one, answer_both, after_both}

-- in states s, with this answer, that leave these states
pub record Made (q : Roof) (s : Two State) (schedule : List ℕ) (answer : Result Response Refusal) (after : Two State) : Type 0 where
  pub answers : one (as_answer answer []) ≡ answer_both q s (picks_both schedule)
  pub leaves : after ≡ after_both q s (picks_both schedule)
