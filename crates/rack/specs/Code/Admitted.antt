-- What a call on a prepared list begins with: the list's head and the run's state, or why it is refused.
use Rattle.std.specs.Prelude.{◌≡◌, Result, Ok, Err, List, ℕ, ◌/◌, length}
use Rattle.base.specs.Verdicts.{number_of}
use Rattle.base.specs.declared.Refusal.{Refusal}
use Rattle.answers.specs.Runs.{state_bytes}
use Rattle.answers.specs.Code.Ran.{StateIs}
use Rattle.picking.specs.Code.Reads.{Head}
use Rattle.rack.specs.Code.Taken.{refusal_in}
use Rattle.rack.specs.declared.Admitted.{Admitted}

-- no call is refused, and these are the head and the state
pub record Fits (list state sums : List ℕ) (a : Admitted) : Type 0 where
  pub free : refusal_in list state sums ≡ 0
  pub head : Head list a.sizes.rows a.sizes.crew a.sizes.count
  pub rows : a.sizes.rows ≡ length sums / 8
  pub whole : length state ≡ state_bytes
  pub state-is : StateIs a.before state

-- .. or every call is refused so
abbrev pub IsAdmitted : (list state sums : List ℕ) → Result Admitted Refusal → Type 0
IsAdmitted list state sums (Ok a) = Fits list state sums a
IsAdmitted list state sums (Err r) = (number_of r.kind ≡ refusal_in list state sums) × (r.place ≡ 0)
