-- `set_movement_of` meets its contract, by the reply.
use mathlib.Core.Path.{ap, ◌∙◌}
use Prim.Native.Nat.{ℕ}
use mir.Syntax.{w32}
use borrow.Author.Rules.{rules}
use mir.Facts.{to_z-of_z}
use Rattle.std.specs.Prelude.{Result}
use Rattle.base.specs.Verdicts.{reply_of}
use Rattle.base.specs.declared.Refusal.{Refusal}
use Rattle.matrix.specs.Held.{held}
use Rattle.lent.specs.Word.{word}
use Rattle.site.proofs.Changes.{movement_said, movement_refused, movement_stored}
use Rattle.site.proofs.movement.set_movement_of.Goals as goal

pub returns-in_default : goal.returns-in_default
returns-in_default c =
    movement_said (to_z-of_z {w = w32} (search rules))
    (movement_refused (held c.args.m.now) _ c.args.movements.now c.args.forces.now c.requires c.in_default.ensures.reply (c.word_of.ensures ∙ ap (λ (r : Result ℕ Refusal). word (reply_of r)) c.in_default.is))

pub returns : goal.returns
returns c =
    let said = c.set_displacement-answer.ensures in
    movement_said (to_z-of_z {w = w32} (search rules))
    (movement_stored (held c.args.m.now) _ c.args.movements.now c.args.forces.now c.requires c.in-Ok.ensures.reply said.displacements_left said.forces_left (c.word_of-2.ensures ∙ ap (λ (r : Result ℕ Refusal). word (reply_of r)) c.in-Ok.is) c.store.ensures c.store-2.ensures)
