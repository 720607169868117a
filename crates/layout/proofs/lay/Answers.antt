-- `lay` meets its contract: the records are cut from the list, and the tables filled by them.
use Rattle.layout.proofs.PlannedCut.{planned-cut}
use Rattle.layout.proofs.lay.Goals as goal

pub fill-requires : goal.fill-requires
fill-requires c = let s = c.requires in (s.0, planned-cut s.1, s.2, s.3)

pub returns : goal.returns
returns c j g k b = c.fill.ensures j (planned-cut g) k b
