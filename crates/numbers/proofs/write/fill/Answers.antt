use Rattle.std.proofs.Common.{◌≡◌, ◌-◌, get_or, pos, sym, ap, ◌∙◌, arith}
use Rattle.words.specs.LittleEndian.{signed_number, signed, to_signed}
use Rattle.words.proofs.Blocks.{length_decoded}
use Rattle.numbers.proofs.write.Measuring.{number-here}
use Rattle.numbers.proofs.write.Writing.{writing_start, writing_room, writing_more, writing_done}
use Rattle.numbers.proofs.write.fill.Goals as goal

pub loop-k-init : goal.loop-k-init
loop-k-init c =
    let b = c.args.numbers.now in
    writing_start (signed 8 b) c.args.text.now (sym (length_decoded (signed_number 8) 8 b)) c.requires.0 c.requires.1

pub put_line-at-requires : goal.put_line-at-requires
put_line-at-requires c =
    let next : to_signed 8 c.read.result ≡ get_or (signed 8 c.args.numbers.now) (c.loop-k.k - 1) (pos 0) = let b = c.args.numbers.now in
    ap (to_signed 8) c.read.ensures ∙ number-here b (c.loop-k.k - 1) (omega (arith, c.loop-k.invariant.far, length_decoded (signed_number 8) 8 b, c.loop-k-test.true)) in
    rw next (writing_room (signed 8 c.args.numbers.now) c.args.text.now c.loop-k.invariant c.loop-k-test.true)

pub loop-k-preserved : goal.loop-k-preserved
loop-k-preserved c =
    let next : to_signed 8 c.read.result ≡ get_or (signed 8 c.args.numbers.now) (c.loop-k.k - 1) (pos 0) = let b = c.args.numbers.now in
    ap (to_signed 8) c.read.ensures ∙ number-here b (c.loop-k.k - 1) (omega (arith, c.loop-k.invariant.far, length_decoded (signed_number 8) 8 b, c.loop-k-test.true)) in
    writing_more (signed 8 c.args.numbers.now) c.args.text.now c.loop-k.invariant c.loop-k-test.true (rw next at c.put_line-at.ensures)

pub returns : goal.returns
returns c =
    writing_done (signed 8 c.args.numbers.now) c.args.text.now c.loop-k.invariant c.loop-k-test.false
