-- `passes::Shaped::meet_row`: row i is met up to place p, and the rows before it up to their cursors.
use mathlib.Core.Path.{◌≡◌}
use Prim.Native.Nat.{◌-◌}
use lib.ListN.{length}
use Rattle.matrix.specs.Held.{held}
use Rattle.symmetric.proofs.Cursors.{Turns}
use Rattle.symmetric.proofs.passes.Shaped.meet_row.Given as goal

abbrev pub invariant-loop-j : goal.invariant-loop-j
invariant-loop-j l = Turns (held l.self.m) l.i l.p l.least l.cursors × (length l.cursors ≡ length l.initial.cursors)

abbrev pub decreases-loop-j : goal.decreases-loop-j
decreases-loop-j l = l.end - l.p
