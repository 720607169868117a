-- `add_row`: the columns passed have their sums.
use lib.ListN.{take}
use Rattle.upkeep.specs.Code.Sums.{Added}
use Rattle.upkeep.proofs.adding.add_row.Given as goal

abbrev pub invariant-loop-k : goal.invariant-loop-k
invariant-loop-k l = Added (take l.k l.columns) (take l.k l.values) l.step l.initial.forces l.forces
