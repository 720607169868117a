-- `line_width` meets its contract.
use Rattle.std.proofs.Common.{leb, sym, arith}
use Rattle.market.proofs.Decimal.{decimal-few}
use Rattle.numbers.proofs.width.Widths.{bool_small, line-width, magnitude_small}
use Rattle.numbers.proofs.width.line_width.Goals as goal

pub width-requires : goal.width-requires
width-requires c = rw c.magnitude.ensures (magnitude_small c.args.bits c.ranges.bits.fits)

pub overflow_add-result : goal.overflow_add-result
overflow_add-result c = omega (arith, c.width.ensures, decimal-few 19 c.magnitude.result, bool_small (leb 9223372036854775808 c.args.bits))

pub overflow_add-result-2 : goal.overflow_add-result-2
overflow_add-result-2 c = omega (arith, c.width.ensures, decimal-few 19 c.magnitude.result, bool_small (leb 9223372036854775808 c.args.bits))

pub returns : goal.returns
returns c = rw (c.width.ensures, c.magnitude.ensures) (sym (line-width c.args.bits))
