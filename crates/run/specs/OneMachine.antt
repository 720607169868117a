-- What every_run says of answers and states leaves no other machine.
use Rattle.std.specs.Prelude.{◌≡◌, List}
use Rattle.run.specs.Job.{Job, Accepted}
use Rattle.run.specs.State.{State, fresh}
use Rattle.run.specs.OneAccess.{Walk}
use Rattle.run.specs.Calls.{answer, after}
use Rattle.run.specs.Answers.{Call, Answer}
use Rattle.run.specs.Sequence.{answers_from, state_after}
use Rattle.run.specs.Model.{no_counts, taken_picks, model_answers}
use Rattle.run.specs.EveryRun.{run_state, run_answers}

-- a machine by its answers and the states it leaves: the model's answers, and one access for each pick that the model
-- takes
pub record Meets (j : Job) (answers : State → Call → Answer) (leaves : State → Call → State) : Type 0 where
  pub answered : (cs : List Call) → answers_from answers leaves (fresh j.matrix.n) cs ≡ model_answers j no_counts cs
  pub walked : (cs : List Call) → Walk j (fresh j.matrix.n) (taken_picks j no_counts cs) (state_after leaves (fresh j.matrix.n) cs)

-- the machine of these pages is one, and every other one has its answers and its states in every run
pub record OneMachine : Type 0 where
  pub this : (j : Job) → Accepted j → Meets j (answer j) (after j)
  pub no_other : (j : Job) → Accepted j → (answers : State → Call → Answer) (leaves : State → Call → State) → Meets j answers leaves → (cs : List Call)
      → (answers_from answers leaves (fresh j.matrix.n) cs ≡ run_answers j cs) × (state_after leaves (fresh j.matrix.n) cs ≡ run_state j cs)
