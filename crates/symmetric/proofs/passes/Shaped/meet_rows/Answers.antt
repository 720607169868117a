use mathlib.Core.Path.{refl, sym, ◌∙◌}
use Prim.Native.Nat.{◌+◌, ◌-◌}
use native.Mathlib.Omega.{arith}
use lib.ListN.{get_or}
use borrow.Author.Tests.{lt-leb}
use Rattle.matrix.specs.Matrix.{Matrix}
use Rattle.matrix.specs.Held.{held}
use Rattle.symmetric.specs.Code.Cursors.{Cursors}
use Rattle.matrix.proofs.Checks.{shape}
use Rattle.symmetric.proofs.RowsMet.{RowsMet, rows_none, rows_next, rows-many, rows_all}
use Rattle.symmetric.proofs.passes.Shaped.meet_rows.Goals as goal

pub loop-i-init : goal.loop-i-init
loop-i-init c = (rows_none _ c.requires, refl)

pub bounds-m-i : goal.bounds-m-i
bounds-m-i c =
    let given : Matrix = held c.args.self.now.m in
    omega (arith, (shape given c.args.self.now.shape).starts-long)

pub loop-i-preserved : goal.loop-i-preserved
loop-i-preserved c =
    let given : Matrix = held c.args.self.now.m in
    let met : Cursors given (c.loop-i.i + 1) c.meet_row.new.cursors = c.meet_row.ensures.yes (c.if-not-meet_row.false) in
    let next : let a = c.args.self.now.m in let cursors = c.meet_row.new.cursors in RowsMet given (c.loop-i.lower + (get_or cursors c.loop-i.i 0 - get_or a.starts.now c.loop-i.i 0)) (c.loop-i.i + 1) cursors = rows_next given c.loop-i.invariant.0 c.loop-i-test.true met in
    (next, c.meet_row.auto.cursors ∙ c.loop-i.invariant.1)

pub returns-else-lower-le-MAX_ENTRIES : goal.returns-else-lower-le-MAX_ENTRIES
returns-else-lower-le-MAX_ENTRIES c =
    let given : Matrix = held c.args.self.now.m in
    lt-leb _ _ c.if-lower-le-MAX_ENTRIES.false ∙ sym (rows-many given c.args.self.now.shape c.loop-i.invariant.0 (omega arith) c.if-lower-le-MAX_ENTRIES.false)

pub are_ended-requires : goal.are_ended-requires
are_ended-requires c =
    let given : Matrix = held c.args.self.now.m in
    ((shape given c.args.self.now.shape).starts-long, c.loop-i.invariant.0.placed.size)

pub returns-then-lower-le-MAX_ENTRIES : goal.returns-then-lower-le-MAX_ENTRIES
returns-then-lower-le-MAX_ENTRIES c =
    let given : Matrix = held c.args.self.now.m in
    c.are_ended.ensures ∙ rows_all given c.args.self.now.shape c.loop-i.invariant.0 (omega arith) c.if-lower-le-MAX_ENTRIES.true
