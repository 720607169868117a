-- After the turns up to j the rows within j - 2 joins are marked, and the last ring stands in the queue.
use Prim.Native.Nat.{◌-◌}
use Rattle.levels.specs.Code.Graph.{adj}
use Rattle.search.proofs.MarkedRegion.{Rings}
use Rattle.search.proofs.visiting.Visits.mark_region.Given as goal

abbrev pub invariant-loop-j : goal.invariant-loop-j
invariant-loop-j l = Rings (adj l.scope.graph) l.scope.graph.m.n l.own (l.j - 2) l.self.marks l.self.queue l.lo l.hi
