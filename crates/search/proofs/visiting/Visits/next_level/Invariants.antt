-- After the turns up to i the rows of the level from i on are left to expand.
use Rattle.levels.specs.Code.Graph.{adj}
use Rattle.search.proofs.Visited.{Across}
use Rattle.search.proofs.visiting.Visits.next_level.Given as goal

abbrev pub invariant-loop-i : goal.invariant-loop-i
invariant-loop-i l = Across (adj l.graph) l.graph.m.n l.change.from l.change.to l.initial.self.marks l.initial.self.queue l.lo l.hi l.self.marks l.self.queue l.tail l.i
