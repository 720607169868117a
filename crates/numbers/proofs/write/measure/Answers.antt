use Rattle.std.proofs.Common.{◌≡◌, length, get_or, pos, ◌∙◌, arith}
use Rattle.words.specs.LittleEndian.{signed_number, signed}
use Rattle.words.proofs.Blocks.{length_decoded}
use Rattle.numbers.specs.Lines.{number_line}
use Rattle.numbers.proofs.width.Widths.{line-few}
use Rattle.numbers.proofs.write.Measuring.{number-here, measure_start, measure_more, measure_short, measure_fits}
use Rattle.numbers.proofs.write.measure.Goals as goal

pub loop-k-init : goal.loop-k-init
loop-k-init c = let a = c.args in measure_start (signed 8 a.numbers.now) a.room

pub overflow_cast-size : goal.overflow_cast-size
overflow_cast-size c = omega (arith, c.line_width-size.ensures, line-few c.read.result)

pub loop-k-preserved : goal.loop-k-preserved
loop-k-preserved c =
    let line : c.line_width-size.result ≡ length (number_line (get_or (signed 8 c.args.numbers.now) c.loop-k.k (pos 0))) = c.line_width-size.ensures ∙ rw (c.read.ensures, number-here c.args.numbers.now c.loop-k.k c.loop-k-test.true) in
    let b = c.args.numbers.now in
    rw c.min-left.ensures (measure_more (signed 8 b) _ c.loop-k.invariant (omega (arith, length_decoded (signed_number 8) 8 b, c.loop-k-test.true)) line c.wrapping_add_u32-needed.ensures.value)

pub returns-then-over-gt0 : goal.returns-then-over-gt0
returns-then-over-gt0 c =
    let b = c.args.numbers.now in
    measure_short (signed 8 b) _ c.loop-k.invariant (omega (arith, length_decoded (signed_number 8) 8 b, c.loop-k-test.false)) c.if-over-gt0.true

pub returns : goal.returns
returns c =
    let b = c.args.numbers.now in
    measure_fits (signed 8 b) _ c.loop-k.invariant (omega (arith, length_decoded (signed_number 8) 8 b, c.loop-k-test.false)) c.if-over-gt0.false
