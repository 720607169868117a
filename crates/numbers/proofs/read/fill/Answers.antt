use Rattle.std.proofs.Common.{drop, sym, ◌∙◌}
use Rattle.numbers.specs.Lines.{number_on}
use Rattle.numbers.proofs.read.Told.{number-told}
use Rattle.numbers.proofs.read.Filling.{always_number, filling_start, filling_room, filling_more, filling_done}
use Rattle.numbers.proofs.read.fill.Goals as goal

pub loop-at-init : goal.loop-at-init
loop-at-init c = filling_start c.args.text.now c.requires.0 c.args.list.now

pub unwrap-bits-requires : goal.unwrap-bits-requires
unwrap-bits-requires c = always_number c.args.text.now c.requires.0 c.loop-at.invariant.lines c.loop-at-test.true _ c.read_line.ensures

pub write-requires : goal.write-requires
write-requires c =
    let number = number-told c.loop-at.at c.unwrap-bits.result.0 c.unwrap-bits.result.1 (number_on (drop c.loop-at.at c.args.text.now)) (sym c.unwrap-bits.ensures ∙ c.read_line.ensures) in
    filling_room c.args.text.now c.requires.0 c.args.list.now c.requires.1 c.loop-at.invariant number

pub loop-at-preserved : goal.loop-at-preserved
loop-at-preserved c =
    let number = number-told c.loop-at.at c.unwrap-bits.result.0 c.unwrap-bits.result.1 (number_on (drop c.loop-at.at c.args.text.now)) (sym c.unwrap-bits.ensures ∙ c.read_line.ensures) in
    filling_more c.args.text.now c.requires.0 c.args.list.now c.requires.1 c.loop-at.invariant number c.write.ensures

pub returns : goal.returns
returns c = filling_done c.args.text.now c.requires.0 c.args.list.now c.loop-at-test.false c.loop-at.invariant
