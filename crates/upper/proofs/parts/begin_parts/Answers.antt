use mathlib.Core.Path.{sym, ap}
use native.Mathlib.Omega.{arith}
use borrow.Author.Rules.{rules}
use lib.Seq.{get_or-take}
use Rattle.upper.specs.Code.Upper.{part_at}
use Rattle.upper.proofs.PositionTable.{begun-next}
use Rattle.upper.proofs.BeginPartsNames.{start-bounds}
use Rattle.upper.proofs.parts.begin_parts.Goals as goal

pub bounds-ordered-row : goal.bounds-ordered-row
bounds-ordered-row c = let b = start-bounds c.args.ordered.now.lent c.loop-p-test.true in search rules

pub overflow_add-parts : goal.overflow_add-parts
overflow_add-parts c = let b = start-bounds c.args.ordered.now.lent c.loop-p-test.true in search rules

pub bounds-parts-p : goal.bounds-parts-p
bounds-parts-p c = let b = start-bounds c.args.ordered.now.lent c.loop-p-test.true in search rules

pub loop-p-preserved : goal.loop-p-preserved
loop-p-preserved c =
    let a = c.args.ordered.now in
    let b = start-bounds a.lent c.loop-p-test.true in
    begun-next a.m.starts.now _ c.loop-p.p (omega (arith, b.few, c.loop-p-test.true)) (ap (part_at a.m.starts.now) (sym (get_or-take _ a.order.now c.loop-p.p 0 c.loop-p-test.true))) c.loop-p.invariant
