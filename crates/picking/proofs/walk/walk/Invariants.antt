-- `walk` meets its contract: k picks are gone through.
use Prim.Native.Nat.{◌≤◌}
use Rattle.words.specs.LittleEndian.{signed}
use Rattle.machine.specs.Record.{state_of}
use Rattle.picking.proofs.Walks.{Going}
use Rattle.picking.proofs.walk.walk.Given as goal

abbrev pub invariant-loop-k : goal.invariant-loop-k
invariant-loop-k l =
    (l.taken ≤ l.k) × Going l.list l.sizes.rows l.sizes.count l.rule (state_of l.initial.now (signed 8 l.initial.sums)) l.initial.sums l.schedule l.taken l.k l.now.made l.now.held l.seen l.sums
