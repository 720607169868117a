use mathlib.Core.Path.{◌≡◌, sym, ◌∙◌}
use native.Mathlib.Omega.{arith}
use lib.IntN.{pos}
use mir.Syntax.{w64}
use mir.Val.{SFits}
use mir.Facts.{to_z-of_z}
use borrow.Author.Rules.{rules}
use Rattle.base.proofs.Fill.{filled_next}
use Rattle.matrix.specs.Matrix.{Matrix}
use Rattle.matrix.specs.Held.{held}
use Rattle.matrix.specs.Product.{force_at, product}
use Rattle.matrix.proofs.Checks.{matrix_tidy}
use Rattle.matrix.proofs.Rows.{columns-part, values-part, columns-in, values_in}
use Rattle.multiply.proofs.Forces.{row_ok, force_row}
use Rattle.multiply.proofs.fill.Goals as goal

pub columns_of-requires : goal.columns_of-requires
columns_of-requires c = columns-in _ (matrix_tidy _ c.requires.matrix).shape c.loop-i.i c.loop-i-test.true

pub values_of-requires : goal.values_of-requires
values_of-requires c = values_in _ (matrix_tidy _ c.requires.matrix).shape c.loop-i.i c.loop-i-test.true

pub force-requires : goal.force-requires
force-requires c =
    let given : Matrix = held c.args.m.now in
    row_ok given c.args.displacements.now c.requires c.loop-i.i c.loop-i-test.true
    (c.columns_of.ensures ∙ sym (columns-part given c.loop-i.i c.loop-i-test.true))
    (c.values_of.ensures ∙ sym (values-part given c.loop-i.i c.loop-i-test.true))

pub loop-i-preserved : goal.loop-i-preserved
loop-i-preserved c =
    let given : Matrix = held c.args.m.now in
    let x = c.args.displacements.now in
    let f : SFits w64 c.force.result = search rules in
    let e = c.force.ensures ∙ force_row given x c.requires c.loop-i.i c.loop-i-test.true
    (c.columns_of.ensures ∙ sym (columns-part given c.loop-i.i c.loop-i-test.true))
    (c.values_of.ensures ∙ sym (values-part given c.loop-i.i c.loop-i-test.true)) in
    rw (to_z-of_z f, e, c.loop-i.invariant) (filled_next (force_at given x) c.args.forces.now (pos 0) c.loop-i.i (omega (arith, c.requires.long)))

pub returns : goal.returns
unfolding product
returns c = let e : c.loop-i.i ≡ c.args.m.now.n = omega arith in rw e at c.loop-i.invariant
