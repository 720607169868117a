-- `told` meets its contract.
use Rattle.rack.proofs.Takes.{place-low}
use Rattle.rack.proofs.told.Goals as goal

pub returns : goal.returns
returns c = rw (c.stop_of-stop.ensures.0, c.stop_of-stop.ensures.1, place-low)
