-- `mzk_prepared_rounds` meets its contract: the picks are taken, then their word is made.
use Rattle.answers.specs.Runs.{round_word}
use Rattle.answers.proofs.RunPicks.{took_moved}
use Rattle.rack.specs.Code.Taken.{takes}
use Rattle.mazhoketh.proofs.prepared_runs.mzk_prepared_rounds.Goals as goal

pub returns : goal.returns
unfolding takes
returns c = took_moved c.take-answer.ensures round_word c.word_of_round.ensures
