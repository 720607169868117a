-- After i turns the first i rows are reached.
use Rattle.levels.specs.Code.Graph.{adj}
use Rattle.search.specs.Code.Search.{Between, Kept}
use Rattle.search.proofs.visiting.Visits.components.Given as goal

abbrev pub invariant-loop-i : goal.invariant-loop-i
invariant-loop-i l = Between (adj l.scope.graph) l.scope.reach l.scope.graph.m.n l.own l.own l.k l.i l.self.marks l.self.queue × Kept l.initial.self.marks l.self.marks
