-- `look_in` meets its contract: the call stores the forces.
use Rattle.answers.proofs.RunPicks.{ran_gave}
use Rattle.cabinet.proofs.look_in.Goals as goal

pub returns : goal.returns
returns c = ran_gave c.perform_in-answer.ensures
