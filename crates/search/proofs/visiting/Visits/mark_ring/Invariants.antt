-- After the turns up to i the columns of the ring's rows before i have mark 1.
use mathlib.Core.Path.{◌≡◌}
use mathlib.Core.List.{map}
use Prim.Native.Nat.{◌-◌}
use lib.ListN.{take}
use lib.Seq.{slice}
use Rattle.base.specs.Lists.{concat}
use Rattle.matrix.specs.Matrix.{columns_of}
use Rattle.levels.specs.Code.Graph.{pattern_of}
use Rattle.search.specs.Code.Marks.{Marked}
use Rattle.search.proofs.visiting.Visits.mark_ring.Given as goal

abbrev pub invariant-loop-i : goal.invariant-loop-i
invariant-loop-i l =
    Marked (concat (map (columns_of (pattern_of l.graph)) (take (l.i - l.lo) (slice l.lo l.hi l.initial.self.queue)))) l.initial.self.marks l.self.marks
    × (l.self.queue ≡ l.initial.self.queue)
