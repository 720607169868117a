-- `passes::are_ended`: what was found of the rows passed decides, with those that are left.
use Rattle.base.specs.Lists.{range}
use Rattle.base.proofs.Found.{Found}
use Rattle.symmetric.specs.Code.Cursors.{ended}
use Rattle.symmetric.proofs.passes.are_ended.Given as goal

abbrev pub invariant-loop-i : goal.invariant-loop-i
invariant-loop-i l = Found (ended l.starts l.cursors) (range 0 l.n) l.ends l.i
