use native.Mathlib.Omega.{arith}
use Rattle.extents.specs.Extents.{nearest}
use Rattle.extents.proofs.nearest.Goals as goal

pub returns : goal.returns
unfolding nearest
returns c = omega arith
