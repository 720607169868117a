-- `set_entry_of` meets its contract, by the reply.
use mathlib.Core.Path.{refl, ap, ◌∙◌}
use Prim.Native.Nat.{ℕ}
use native.Mathlib.Omega.{arith}
use mir.Syntax.{w32}
use borrow.Author.Rules.{rules}
use mir.Facts.{to_z-of_z}
use Rattle.std.specs.Prelude.{Result}
use Rattle.base.specs.Verdicts.{reply_of}
use Rattle.base.specs.declared.Refusal.{Refusal}
use Rattle.matrix.specs.Matrix.{Matrix, matrix_of}
use Rattle.lent.specs.Word.{word}
use Rattle.lent.proofs.Answers.{begins-fits, begins-size}
use Rattle.site.proofs.Changes.{entry_said, entry-refused, rows-few, rows_in_lem, values_begin, entry-stored}
use Rattle.site.proofs.entry.set_entry_of.Goals as goal

pub returns-in_default : goal.returns-in_default
returns-in_default c =
    let given : Matrix = let f = c.args.fixed.now in matrix_of f.n f.starts.now f.columns.now c.args.list.now in
    entry_said (to_z-of_z {w = w32} (search rules))
    (entry-refused given _ c.args.fixed.now.movements.now c.args.forces.now (record { moved = c.args.fixed.now.moved; kept = c.requires.0 }) c.in_default.ensures.reply (c.word_of.ensures ∙ ap (λ (r : Result ℕ Refusal). word (reply_of r)) c.in_default.is) c.args.values.now)

pub offset_bounds-fixed-fixed : goal.offset_bounds-fixed-fixed
offset_bounds-fixed-fixed c =
    let given : Matrix = let f = c.args.fixed.now in matrix_of f.n f.starts.now f.columns.now c.args.list.now in
    omega (arith, rows-few given _ c.args.fixed.now.movements.now c.args.forces.now (record { moved = c.args.fixed.now.moved; kept = c.requires.0 }) c.in-Ok.ensures.reply)

pub bounds-fixed-fixed : goal.bounds-fixed-fixed
bounds-fixed-fixed c =
    let given : Matrix = let f = c.args.fixed.now in matrix_of f.n f.starts.now f.columns.now c.args.list.now in
    rows_in_lem given _ c.args.fixed.now.movements.now c.args.forces.now (record { moved = c.args.fixed.now.moved; kept = c.requires.0 }) c.in-Ok.ensures.reply

pub slice_bounds-store-end : goal.slice_bounds-store-end
slice_bounds-store-end c =
    let given : Matrix = let f = c.args.fixed.now in matrix_of f.n f.starts.now f.columns.now c.args.list.now in
    begins-fits (values_begin given _ c.args.fixed.now.movements.now c.args.forces.now (record { moved = c.args.fixed.now.moved; kept = c.requires.0 }) c.in-Ok.ensures.reply c.set_entry-answer.ensures.values_left refl)

pub slice_bounds-store-end-2 : goal.slice_bounds-store-end-2
slice_bounds-store-end-2 c =
    let given : Matrix = let f = c.args.fixed.now in matrix_of f.n f.starts.now f.columns.now c.args.list.now in
    begins-size (values_begin given _ c.args.fixed.now.movements.now c.args.forces.now (record { moved = c.args.fixed.now.moved; kept = c.requires.0 }) c.in-Ok.ensures.reply c.set_entry-answer.ensures.values_left refl)

pub returns : goal.returns
returns c =
    let given : Matrix = let f = c.args.fixed.now in matrix_of f.n f.starts.now f.columns.now c.args.list.now in
    entry_said (to_z-of_z {w = w32} (search rules))
    (entry-stored given _ c.args.fixed.now.movements.now c.args.forces.now (record { moved = c.args.fixed.now.moved; kept = c.requires.0 }) c.in-Ok.ensures.reply c.set_entry-answer.ensures.values_left refl c.args.values.now c.requires.1 c.set_entry-answer.ensures.forces_left (c.word_of-2.ensures ∙ ap (λ (r : Result ℕ Refusal). word (reply_of r)) c.in-Ok.is) c.store.ensures c.store-2.ensures)
