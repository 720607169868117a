use mathlib.Core.Path.{◌∙◌}
use Rattle.picking.proofs.Turns.{shut_none, shut_is}
use borrow.Author.Rules.{rules}
use Rattle.picking.proofs.gates.is_shut.Goals as goal

pub returns-then-rows-row : goal.returns-then-rows-row
returns-then-rows-row c = shut_none _ _ _ _ _ (search rules)

pub returns : goal.returns
returns c = c.is_behind.ensures ∙ shut_is _ _ _ _ _ (search rules)
