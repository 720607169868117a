-- `perform_in` meets its contract: state and sums are decoded as far as a job can reach.
use Rattle.answers.proofs.RunPicks.{ran}
use Rattle.cabinet.proofs.perform_in.Goals as goal

pub returns : goal.returns
returns c =
    let run = c.args.run.now in
    ran _ _ _ _ _ _ run.state.now run.sums.now c.load_state-after.result c.load_state-after.ensures c.load_sums-kept.ensures.are _ c.perform_on-answer.auto.sums c.perform_on-answer.ensures
