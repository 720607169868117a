-- Of the ends of k to i levels, that of `best` levels is the nearest.
use Rattle.extents.proofs.NearestEnd.{Nearing}
use Rattle.extents.proofs.nearest_end.Given as goal

abbrev pub invariant-loop-i : goal.invariant-loop-i
invariant-loop-i l = Nearing l.loads l.k l.x l.y l.q l.best l.least l.i
