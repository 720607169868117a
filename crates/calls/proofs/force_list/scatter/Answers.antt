use mathlib.Core.Path.{sym}
use lib.IntN.{pos}
use lib.ListN.{length, get_or, take}
use lib.Seq.{get_or-take}
use mir.Syntax.{w64}
use mir.Val.{SFits}
use mir.Facts.{to_z-of_z}
use borrow.Author.Rules.{rules}
use Rattle.plan.proofs.Once.{once}
use Rattle.calls.proofs.Scattering.{scattered_none, scattered_next, place-below}
use Rattle.calls.proofs.force_list.scatter.Goals as goal

pub loop-p-init : goal.loop-p-init
loop-p-init c = let a = c.args in scattered_none (length a.sums.now) _ (once _ _ c.requires.1) _ _ c.requires.2

pub bounds-forces-order : goal.bounds-forces-order
bounds-forces-order c =
    let a = c.args in
    let n = length a.sums.now in
    let h = place-below n (take n a.order.now) (once _ _ c.requires.1) a.sums.now a.forces.now c.requires.2 c.loop-p.p c.loop-p-test.true c.loop-p.forces c.loop-p.invariant in
    let row = get_or-take n a.order.now c.loop-p.p 0 c.loop-p-test.true in
    rw row at h

pub loop-p-preserved : goal.loop-p-preserved
loop-p-preserved c =
    let a = c.args in
    let n = length a.sums.now in
    let row = get_or-take n a.order.now c.loop-p.p 0 c.loop-p-test.true in
    let fits : SFits w64 (get_or a.sums.now c.loop-p.p (pos 0)) = search rules in
    rw (to_z-of_z fits, sym row)
    (scattered_next n (take n a.order.now) (once _ _ c.requires.1) a.sums.now a.forces.now c.requires.2 c.loop-p.p c.loop-p-test.true c.loop-p.forces c.loop-p.invariant)

pub shape_of-forces : goal.shape_of-forces
shape_of-forces c = c.loop-p.invariant.long
