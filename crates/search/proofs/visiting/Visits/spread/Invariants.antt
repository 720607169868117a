-- After each turn one level more is done.
use Prim.Native.Nat.{◌+◌, ◌*◌, ◌-◌}
use Rattle.levels.specs.Code.Graph.{adj}
use Rattle.search.specs.Code.Marks.{unreached}
use Rattle.search.proofs.Frontiers.{Spreading}
use Rattle.search.proofs.visiting.Visits.spread.Given as goal

abbrev pub invariant-loop-lo : goal.invariant-loop-lo
invariant-loop-lo l = Spreading (adj l.graph) l.graph.m.n l.k l.d l.initial.self.marks l.self.marks l.self.queue l.lo l.hi

abbrev pub decreases-loop-lo : goal.decreases-loop-lo
decreases-loop-lo l = 2 * unreached l.graph.m.n l.self.marks + (1 - (1 - (l.hi - l.lo)))
