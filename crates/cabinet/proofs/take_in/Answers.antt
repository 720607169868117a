-- `take_in` meets its contract: the call, then what it leaves is stored.
use Rattle.answers.proofs.RunPicks.{ran_fits, ran_took}
use Rattle.cabinet.proofs.take_in.Goals as goal

pub store_picks-requires : goal.store_picks-requires
store_picks-requires c = ran_fits c.perform_in-answer.ensures

pub returns : goal.returns
returns c = ran_took c.perform_in-answer.ensures _ c.store_picks.ensures.state c.store_picks.ensures.sums
