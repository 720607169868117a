-- `put_line` meets its contract: line feed, digits, sign.
use Rattle.std.proofs.Common.{arith, length-set}
use Rattle.numbers.proofs.put.Putting.{put_plain, sign_room, sign_inside, put_negative}
use Rattle.numbers.proofs.width.Widths.{line-width, magnitude_small}
use Rattle.numbers.proofs.put.put_line.Goals as goal

pub overflow_sub-feed : goal.overflow_sub-feed
overflow_sub-feed c = omega (arith, c.requires, line-width c.args.bits)

pub bounds-text-feed : goal.bounds-text-feed
bounds-text-feed c = omega (arith, c.requires, line-width c.args.bits)

pub put_digits-first-requires : goal.put_digits-first-requires
put_digits-first-requires c =
    let w = line-width c.args.bits in
    rw c.magnitude.ensures (magnitude_small c.args.bits c.ranges.bits.fits, omega (arith, c.requires, w), simp length-set (omega (arith, c.requires, w)))

pub returns-then-bits-lt-LEAST : goal.returns-then-bits-lt-LEAST
returns-then-bits-lt-LEAST c = put_plain c.args.bits c.args.text.now c.magnitude.ensures c.requires.0 c.requires.1 c.put_digits-first.ensures.digits c.if-bits-lt-LEAST.true

pub overflow_sub-sign : goal.overflow_sub-sign
overflow_sub-sign c = sign_room c.args.bits c.args.text.now c.magnitude.ensures c.requires.0 c.requires.1 c.put_digits-first.ensures.digits c.if-bits-lt-LEAST.false

pub bounds-text-sign : goal.bounds-text-sign
bounds-text-sign c = omega (arith, sign_room c.args.bits c.args.text.now c.magnitude.ensures c.requires.0 c.requires.1 c.put_digits-first.ensures.digits c.if-bits-lt-LEAST.false, sign_inside c.args.bits c.args.text.now c.magnitude.ensures c.requires.0 c.requires.1 c.put_digits-first.ensures.digits c.if-bits-lt-LEAST.false)

pub returns : goal.returns
returns c = put_negative c.args.bits c.args.text.now c.magnitude.ensures c.requires.0 c.requires.1 c.put_digits-first.ensures.digits c.if-bits-lt-LEAST.false
