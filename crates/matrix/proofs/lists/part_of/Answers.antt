-- `part_of`: what lies between two row starts.
use Prim.Native.Nat.{◌+◌}
use lib.ListN.{get_or}
use Rattle.base.proofs.Lists.{take-drop}
use Rattle.matrix.proofs.lists.part_of.Goals as goal

pub returns : goal.returns
returns g c = take-drop (get_or c.args.starts.now c.args.i 0) (get_or c.args.starts.now (c.args.i + 1) 0) c.args.list.now
