use mathlib.Core.Path.{sym, ◌∙◌}
use Rattle.words.proofs.Digits.{four-at}
use Rattle.picking.proofs.places.word_at.Goals as goal

pub returns : goal.returns
returns c = c.read.ensures ∙ sym (four-at c.args.list.now c.args.at c.requires)
