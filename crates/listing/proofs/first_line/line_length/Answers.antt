use native.Mathlib.Omega.{arith}
use Rattle.listing.proofs.FirstLine.{line_more, line-ends, line-over}
use Rattle.listing.proofs.first_line.line_length.Goals as goal

pub returns-then-b-eq10 : goal.returns-then-b-eq10
returns-then-b-eq10 c = omega (arith, c.loop-i.invariant, line-ends c.args.input.now c.loop-i.i (omega arith) c.if-b-eq10.true)

pub loop-i-preserved : goal.loop-i-preserved
loop-i-preserved c = omega (arith, c.loop-i.invariant, line_more c.args.input.now c.loop-i.i (omega arith) c.if-b-eq10.false)

pub returns : goal.returns
returns c = omega (arith, c.loop-i.invariant, line-over c.args.input.now c.loop-i.i (omega arith))
