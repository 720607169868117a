-- A call on a prepared list before its word is made.
use Rattle.std.specs.Prelude.{◌&&◌, Result, cond, List, ℕ, ◌/◌, eqb, length}
use Rattle.base.specs.Refusals as why
use Rattle.base.specs.declared.Refusal.{Refusal}
use Rattle.run.specs.Answers.{Call, picks, force_list, rounds}
use Rattle.machine.specs.declared.state.Rule.{Rule}
use Rattle.machine.specs.declared.state.Rule.TheVariants.{Stop, Skip}
use Rattle.calls.specs.declared.Response.{Response}
use Rattle.answers.specs.Runs.{state_bytes, state_in}
use Rattle.answers.specs.Code.Ran.{Took, Gave}
use Rattle.prepared.specs.Format.{is_prepared}
use Rattle.prepared.specs.Tables.{is_state_by}
use Rattle.prepared.specs.PreparedRuns.{after_prepared}
use Rattle.picking.specs.Code.Picks.{tables_in}
use Rattle.rack.specs.Kept.{answer_kept, fitting}

-- why every call is refused, 26 before 11; 0: none is
unfoldable pub refusal_in : (list state sums : List ℕ) → ℕ
refusal_in list state sums = cond (is_prepared list) (cond (eqb (length state) state_bytes && is_state_by (tables_in list) (state_in state sums)) 0 why.not_state) why.not_prepared

-- the call that takes a schedule under a rule
unfoldable pub takes : Rule → (schedule : List ℕ) → Call
takes Stop ws = picks ws
takes Skip ws = rounds ws

-- .. its answer as a word has room for it, and the lists after it
abbrev pub TookKept : (list state sums : List ℕ) → Call → Result Response Refusal → (new_state new_sums : List ℕ) → Type 0
TookKept list state sums c = Took c (fitting (answer_kept list state sums c)) (answer_kept list state sums c) (after_prepared list (state_in state sums) c) state sums

-- the force list of a run
abbrev pub GaveKept : (list state sums old : List ℕ) → Result Response Refusal → (new : List ℕ) → Type 0
GaveKept list state sums old = Gave (force_list (length old / 8)) (answer_kept list state sums (force_list (length old / 8))) old
