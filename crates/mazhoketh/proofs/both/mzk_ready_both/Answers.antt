-- `mzk_ready_both` meets its contract: the states are decoded, then the call is made.
use Rattle.mazhoketh.proofs.both.mzk_ready_both.Goals as goal

pub returns : goal.returns
returns c = c.ready_both_in.ensures _ (record { crews = c.load_crews.ensures; sums0 = c.sums_of.ensures; sums1 = c.sums_of-2.ensures })
