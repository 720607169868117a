-- `mzk_ready` meets its contract: the call, then its word.
use Rattle.lent.specs.Word.{word}
use Rattle.answers.specs.Runs.{reply_to}
use Rattle.answers.specs.Code.Ran.{Plain}
use Rattle.answers.proofs.RunPicks.{gave_word}
use Rattle.mazhoketh.proofs.runs.mzk_ready.Goals as goal

pub word_of-requires : goal.word_of-requires
unfolding Plain
word_of-requires c = c.look_in-answer.ensures.place_low tt

pub returns : goal.returns
returns c = gave_word c.look_in-answer.ensures (λ a. word (reply_to a)) c.word_of.ensures
