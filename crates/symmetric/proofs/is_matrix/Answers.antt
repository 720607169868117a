-- `is_matrix`: pass by pass.
use mathlib.Core.Path.{sym, ◌∙◌}
use Rattle.matrix.proofs.Checks.{matrix_unshaped}
use Rattle.symmetric.proofs.Regular.{matrix_large, matrix-regular}
use Rattle.symmetric.proofs.is_matrix.Goals as goal

pub returns-then-not-is_shaped : goal.returns-then-not-is_shaped
returns-then-not-is_shaped c = sym (matrix_unshaped _ (sym c.is_shaped.ensures ∙ c.if-not-is_shaped.true))

pub returns-then-is_small : goal.returns-then-is_small
returns-then-is_small c = c.is_regular.ensures ∙ sym (matrix-regular _ (sym c.is_shaped.ensures ∙ c.if-not-is_shaped.false) (sym c.is_small.ensures ∙ c.if-is_small.true))

pub returns-else-is_small : goal.returns-else-is_small
returns-else-is_small c = c.if-is_small.false ∙ sym (matrix_large _ (sym c.is_shaped.ensures ∙ c.if-not-is_shaped.false) (sym c.is_small.ensures ∙ c.if-is_small.false))
