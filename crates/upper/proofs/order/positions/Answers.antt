use lib.ListN.{take}
use lib.Seq.{get_or-take}
use Rattle.plan.proofs.Once.{once}
use Rattle.upper.proofs.PositionTable.{positions-next, row_below}
use borrow.Author.Rules.{rules}
use Rattle.upper.proofs.order.positions.Goals as goal

pub bounds-position-order : goal.bounds-position-order
bounds-position-order c =
    let a = c.args in
    let p = c.loop-p.p in
    let h = rw (get_or-take a.n a.order.now p 0 c.loop-p-test.true) at (row_below a.n (take a.n a.order.now) (once _ _ c.requires.2) c.requires.1 p c.loop-p-test.true) in
    search rules

pub loop-p-preserved : goal.loop-p-preserved
loop-p-preserved c =
    let a = c.args in
    let p = c.loop-p.p in
    rw (get_or-take a.n a.order.now p 0 c.loop-p-test.true) at (positions-next a.n (take a.n a.order.now) (once _ _ c.requires.2) c.requires.1 p c.loop-p-test.true c.loop-p.position c.loop-p.invariant)
