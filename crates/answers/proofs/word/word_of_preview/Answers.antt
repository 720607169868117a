-- `word_of_preview`: the two parts together have 64 bits.
use borrow.Author.Rules.{rules}
use mathlib.Core.Logic.{⊎_elim}
use mathlib.Core.List.{[]}
use Rattle.answers.proofs.RunPicks.{preview-fits}
use Rattle.answers.proofs.word.word_of_preview.Goals as goal

pub overflow_add-result : goal.overflow_add-result
overflow_add-result c = ⊎_elim (λ none. search rules) (λ fits. search rules) (preview-fits _ c.requires.1 (c.word_of.ensures []) (c.set_of.ensures []))
