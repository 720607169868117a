use Rattle.std.proofs.Common.{arith}
use Rattle.market.proofs.digits.Spelling.{spelling_some, spelling_more, spelling_last, spelling_before}
use Rattle.market.proofs.digits.put_digits.Goals as goal

pub overflow_sub-i : goal.overflow_sub-i
overflow_sub-i c = omega (arith, spelling_some c.loop-x.invariant)

pub bounds-text-i : goal.bounds-text-i
bounds-text-i c = let g = c.loop-x.invariant in omega (arith, spelling_some g, g.inside, g.long)

pub loop-x-preserved : goal.loop-x-preserved
loop-x-preserved c = spelling_more c.loop-x.invariant c.loop-x-test.true

pub overflow_sub-i-2 : goal.overflow_sub-i-2
overflow_sub-i-2 c = omega (arith, spelling_some c.loop-x.invariant)

pub bounds-text-i-2 : goal.bounds-text-i-2
bounds-text-i-2 c = let g = c.loop-x.invariant in omega (arith, spelling_some g, g.inside, g.long)

pub returns : goal.returns
returns c = record { digits = spelling_last c.loop-x.invariant c.loop-x-test.false; before = spelling_before c.loop-x.invariant }
