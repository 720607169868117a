-- `mzk_picks` meets its contract: the picks are taken, then their word is made.
use Rattle.lent.specs.Word.{word}
use Rattle.answers.specs.Runs.{reply_to}
use Rattle.answers.specs.Code.Ran.{Plain}
use Rattle.answers.proofs.RunPicks.{took_moved}
use Rattle.mazhoketh.proofs.picks.mzk_picks.Goals as goal

pub word_of-requires : goal.word_of-requires
unfolding Plain
word_of-requires c = c.take_in-answer.ensures.place_low tt

pub returns : goal.returns
returns c = took_moved c.take_in-answer.ensures (λ a. word (reply_to a)) c.word_of.ensures
