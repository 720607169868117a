-- `mzk_prepared_forces` meets its contract: the call stores the forces, then its word is made.
use Rattle.lent.specs.Word.{word}
use Rattle.answers.specs.Runs.{reply_to}
use Rattle.answers.specs.Code.Ran.{Plain}
use Rattle.answers.proofs.RunPicks.{gave_word}
use Rattle.mazhoketh.proofs.prepared_runs.mzk_prepared_forces.Goals as goal

pub word_of-requires : goal.word_of-requires
unfolding Plain
word_of-requires c = c.forces-answer.ensures.place_low tt

pub returns : goal.returns
returns c = let g = c.forces-answer.ensures in record { returns = gave_word g (λ a. word (reply_to a)) c.word_of.ensures; leaves = g.lists }
