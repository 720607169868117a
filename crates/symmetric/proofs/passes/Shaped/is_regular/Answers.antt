-- `passes::Shaped::is_regular`: as many cursors as a matrix has rows at most.
use Rattle.matrix.proofs.Checks.{shape}
use Rattle.symmetric.proofs.passes.Shaped.is_regular.Goals as goal

pub meet_rows-requires : goal.meet_rows-requires
meet_rows-requires c = (shape _ c.args.self.now.shape).few
