-- `limits::all_within`: what was found of the numbers passed decides, with those that are left.
use Rattle.base.specs.Integers.{within}
use Rattle.base.proofs.Found.{Found}
use Rattle.matrix.proofs.limits.all_within.Given as goal

abbrev pub invariant-loop-z : goal.invariant-loop-z
invariant-loop-z l = Found (within l.limit) l.numbers l.inside l.z-index
