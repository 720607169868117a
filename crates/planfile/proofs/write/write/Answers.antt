-- `write::write` meets its contract.
use Rattle.planfile.proofs.Parts.{write-accepted}
use Rattle.planfile.proofs.write.write.Goals as goal

pub fill-requires : goal.fill-requires
fill-requires c = let ok = c.in_ok-counts.ensures in rw (ok.0, ok.1) (write-accepted _ _ _ _ _ _ ok.2)
