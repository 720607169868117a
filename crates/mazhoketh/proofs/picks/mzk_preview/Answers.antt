-- `mzk_preview` meets its contract: the call, then its word.
use Rattle.answers.specs.Runs.{preview_word}
use Rattle.answers.specs.Code.Ran.{Plain}
use Rattle.answers.proofs.RunPicks.{gave_word}
use Rattle.mazhoketh.proofs.picks.mzk_preview.Goals as goal

pub word_of_preview-requires : goal.word_of_preview-requires
unfolding Plain
word_of_preview-requires c = c.look_in-answer.ensures.place_low tt

pub returns : goal.returns
returns c = gave_word c.look_in-answer.ensures (λ a. preview_word a) c.word_of_preview.ensures
