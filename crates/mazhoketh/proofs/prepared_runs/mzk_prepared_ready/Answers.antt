-- `mzk_prepared_ready` meets its contract.
use mathlib.Core.Path.{ap, ◌∙◌}
use mathlib.Core.List.{[]}
use Rattle.run.specs.Answers.{Answer}
use Rattle.lent.specs.Word.{word}
use Rattle.answers.specs.Runs.{reply_to}
use Rattle.mazhoketh.proofs.prepared_runs.mzk_prepared_ready.Goals as goal

pub returns : goal.returns
returns c = c.word_of.ensures [] ∙ ap (λ (a : Answer). word (reply_to a)) (c.ready-answer.ensures.0 [])
