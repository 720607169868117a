use lib.IntN.{pos}
use lib.ListN.{get_or}
use mir.Syntax.{w32}
use mir.Facts.{to_z-of_z}
use native.Mathlib.Omega.{arith}
use Rattle.matrix.specs.Matrix.{displacement}
use Rattle.upper.proofs.PositionTable.{displaced_next}
use borrow.Author.Rules.{sfits_of}
use Rattle.upper.proofs.order.displace.Goals as goal

pub loop-p-preserved : goal.loop-p-preserved
unfolding displacement
loop-p-preserved c =
    let a = c.args in
    rw (to_z-of_z {w = w32} {z = get_or a.displacements.now (get_or a.order.now c.loop-p.p 0) (pos 0)} (sfits_of c.displaced-1.given))
    (displaced_next a.displacements.now a.order.now c.loop-p.p (omega (arith, c.loop-p-test.true, c.requires.1)) c.loop-p.displaced c.loop-p.invariant)
