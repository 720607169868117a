-- No other machine has what every_run says of answers and states.
use mathlib.Core.Path.{sym, ◌∙◌}
use Rattle.run.specs.State.{fresh}
use Rattle.run.specs.EveryRun.{run_state, run_answers}
use Rattle.run.specs.Model.{no_counts, taken_picks}
use Rattle.run.specs.OneMachine.{OneMachine}
use Rattle.run.proofs.OneAccess.{one_way}
use Rattle.run.proofs.EveryRun.{every_run}

pub one_machine : OneMachine
unfolding run_state run_answers
one_machine = record {
  this = λ j ok. record { answered = λ cs. (every_run.every_run j ok cs).answered; walked = λ cs. (every_run.every_run j ok cs).walked };
  no_other = λ j ok answers leaves m cs.
      let ours = every_run.every_run j ok cs in
      (m.answered cs ∙ sym ours.answered, one_way j (taken_picks j no_counts cs) (fresh j.matrix.n) _ _ (m.walked cs) ours.walked);
}
