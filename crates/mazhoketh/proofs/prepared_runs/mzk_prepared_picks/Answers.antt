-- `mzk_prepared_picks` meets its contract: the picks are taken, then their word is made.
use Rattle.lent.specs.Word.{word}
use Rattle.answers.specs.Runs.{reply_to}
use Rattle.answers.specs.Code.Ran.{Plain}
use Rattle.answers.proofs.RunPicks.{took_moved}
use Rattle.rack.specs.Code.Taken.{takes}
use Rattle.mazhoketh.proofs.prepared_runs.mzk_prepared_picks.Goals as goal

pub word_of-requires : goal.word_of-requires
unfolding Plain takes
word_of-requires c = c.take-answer.ensures.place_low tt

pub returns : goal.returns
unfolding takes
returns c = took_moved c.take-answer.ensures (λ a. word (reply_to a)) c.word_of.ensures
