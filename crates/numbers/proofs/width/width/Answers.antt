use Rattle.std.proofs.Common.{arith}
use Rattle.market.proofs.Decimal.{decimal-few}
use Rattle.numbers.proofs.width.Widths.{length_four, length-small}
use Rattle.numbers.proofs.width.width.Goals as goal

pub overflow_add-digits : goal.overflow_add-digits
overflow_add-digits c = omega (arith, c.loop-x.invariant.1, decimal-few 19 c.args.v)

pub loop-x-preserved : goal.loop-x-preserved
loop-x-preserved c = (omega arith, omega (arith, c.loop-x.invariant.1, length_four c.loop-x.x c.loop-x-test.true c.loop-x.invariant.0))

pub overflow_add-result : goal.overflow_add-result
overflow_add-result c = omega (arith, c.loop-x.invariant.1, length-small c.loop-x.x c.loop-x-test.false, decimal-few 19 c.args.v)

pub overflow_add-result-2 : goal.overflow_add-result-2
overflow_add-result-2 c = omega (arith, c.loop-x.invariant.1, length-small c.loop-x.x c.loop-x-test.false, decimal-few 19 c.args.v)

pub overflow_add-result-3 : goal.overflow_add-result-3
overflow_add-result-3 c = omega (arith, c.loop-x.invariant.1, length-small c.loop-x.x c.loop-x-test.false, decimal-few 19 c.args.v)

pub returns : goal.returns
returns c = omega (arith, c.loop-x.invariant.1, length-small c.loop-x.x c.loop-x-test.false)
