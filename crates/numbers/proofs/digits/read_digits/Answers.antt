use Rattle.std.proofs.Common.{◌≡◌, ◌≤◌, length, get_or, drop, sym, ap, ◌∙◌, arith}
use Rattle.market.specs.Bytes.{class_of}
use Rattle.market.specs.Fields.{digits}
use Rattle.scan.proofs.numbers.Scanning.{digits_stop, digits_end, digit_range}
use Rattle.numbers.proofs.digits.Reading.{reading_more, reading_done}
use Rattle.numbers.proofs.digits.read_digits.Goals as goal

pub returns-then-class_of-ne-DIGIT : goal.returns-then-class_of-ne-DIGIT
returns-then-class_of-ne-DIGIT c =
    let a = c.args in
    reading_done a.text.now a.at c.loop-i.invariant (digits_stop a.text.now c.loop-i.i (λ e. c.if-class_of-ne-DIGIT.true (c.class_of.ensures ∙ e)))

pub overflow_sub-b : goal.overflow_sub-b
overflow_sub-b c = omega (arith, digit_range _ (sym c.class_of.ensures ∙ c.if-class_of-ne-DIGIT.false))

pub more-value-requires : goal.more-value-requires
more-value-requires c = omega (arith, digit_range _ (sym c.class_of.ensures ∙ c.if-class_of-ne-DIGIT.false))

pub loop-i-preserved : goal.loop-i-preserved
loop-i-preserved c =
    let digit : class_of (get_or c.args.text.now c.loop-i.i 0) ≡ 1 = sym c.class_of.ensures ∙ c.if-class_of-ne-DIGIT.false in
    reading_more c.args.text.now c.args.at c.loop-i.invariant c.loop-i-test.true digit c.more-value.ensures

pub returns : goal.returns
returns c =
    let a = c.args in
    let d = reading_done a.text.now a.at c.loop-i.invariant (digits_end a.text.now c.loop-i.i c.loop-i-test.false) in
    let none : length a.text.now ≤ a.at → length (digits (drop a.at a.text.now)) ≡ 0 = λ h. ap length (digits_end a.text.now a.at h) in
    (d.0, grind (arith, none, d.1))
