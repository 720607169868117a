-- `passes::starts_rise`: what was found of the rows passed decides, with those that are left.
use Rattle.base.specs.Lists.{range}
use Rattle.base.proofs.Found.{Found}
use Rattle.matrix.specs.Code.Checks.{rises}
use Rattle.symmetric.proofs.passes.starts_rise.Given as goal

abbrev pub invariant-loop-i : goal.invariant-loop-i
invariant-loop-i l = Found (rises l.starts) (range 0 l.n) l.rise l.i
