-- `mzk_rounds` meets its contract: the picks are taken, then their word is made.
use Rattle.answers.specs.Runs.{round_word}
use Rattle.answers.proofs.RunPicks.{took_moved}
use Rattle.mazhoketh.proofs.picks.mzk_rounds.Goals as goal

pub returns : goal.returns
returns c = took_moved c.take_in-answer.ensures round_word c.word_of_round.ensures
