use mathlib.Core.Path.{◌≡◌, refl}
use native.Mathlib.Numerals.{add-one}
use native.Mathlib.Omega.{arith}
use lib.ListN.{length}
use borrow.Author.Rules.{rules}
use Rattle.base.specs.Integers.{sumℤ}
use Rattle.matrix.specs.Matrix.{displacement}
use Rattle.multiply.proofs.RowForce.{Turn, turn, row_force}
use Rattle.multiply.proofs.row.force.Goals as goal

pub loop-k-init : goal.loop-k-init
unfolding sumℤ
loop-k-init c = refl

pub bounds-displacements-column : goal.bounds-displacements-column
bounds-displacements-column c = (turn _ _ _ c.requires c.loop-k.k c.loop-k-test.true).column

pub overflow_add-sum : goal.overflow_add-sum
unfolding displacement
overflow_add-sum c =
    let t : let a = c.args in Turn a.columns.now a.values.now a.displacements.now c.loop-k.k = turn _ _ _ c.requires c.loop-k.k c.loop-k-test.true in
    rw c.loop-k.invariant (search rules)

pub loop-k-preserved : goal.loop-k-preserved
unfolding displacement sumℤ
loop-k-preserved c =
    let t : let a = c.args in Turn a.columns.now a.values.now a.displacements.now c.loop-k.k = turn _ _ _ c.requires c.loop-k.k c.loop-k-test.true in
    rw (c.loop-k.invariant, add-one c.loop-k.k) (search rules)

pub returns : goal.returns
returns c =
    let e : c.loop-k.k ≡ length c.args.columns.now = omega arith in
    rw (c.loop-k.invariant, e) (row_force _ _ _ c.requires)
