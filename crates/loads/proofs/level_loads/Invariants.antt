-- `level_loads` meets its contract: the loads of the first k levels stand in loads.
use Rattle.loads.specs.Code.Stretches.{levels_in}
use Rattle.loads.proofs.LevelLoads.{Loading}
use Rattle.loads.proofs.level_loads.Given as goal

abbrev pub invariant-loop-k : goal.invariant-loop-k
invariant-loop-k l = Loading l.keys l.ends l.stretch (levels_in 0 l.ends l.stretch) l.loads l.sum l.from l.k
