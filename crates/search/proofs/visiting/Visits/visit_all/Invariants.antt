-- After each turn the rows from i on are left to visit; at most one is left then.
use Prim.Native.Nat.{◌-◌}
use lib.ListN.{length, take}
use Rattle.search.specs.Code.Search.{wave}
use Rattle.search.proofs.Visited.{Along}
use Rattle.search.proofs.visiting.Visits.visit_all.Given as goal

abbrev pub invariant-loop-i : goal.invariant-loop-i
invariant-loop-i l = Along l.graph.m.n l.change.from l.change.to l.rows (wave l.initial.self.marks (take l.start l.initial.self.queue)) l.self.marks l.self.queue l.tail l.i

abbrev pub decreases-loop-i : goal.decreases-loop-i
decreases-loop-i l = length l.rows - l.i
