use mathlib.Core.Path.{◌≡◌, subst, sym, ◌∙◌}
use Prim.Native.Nat.{◌+◌}
use native.Mathlib.Omega.{arith}
use lib.ListN.{get_or}
use Rattle.market.specs.Bytes.{class_of}
use Rattle.scan.proofs.numbers.Scanning.{class_inside, digits_stop, digit_range}
use Rattle.scan.proofs.numbers.Digits.{Digits, digits-first, digits_step, digits-done, digits-many}
use Rattle.scan.proofs.numbers.read_digits.Goals as goal

pub overflow_sub-v : goal.overflow_sub-v
overflow_sub-v c = omega (arith, digit_range _ c.requires.1)

pub loop-i-init : goal.loop-i-init
loop-i-init c = digits-first c.args.s.now c.args.at c.requires.0 c.requires.1

pub returns-then-class_of-ne-DIGIT : goal.returns-then-class_of-ne-DIGIT
returns-then-class_of-ne-DIGIT c =
    digits-done c.args.s.now c.args.at c.loop-i.v c.loop-i.i c.loop-i.invariant (omega arith)
    (digits_stop c.args.s.now c.loop-i.i (λ e. c.if-class_of-ne-DIGIT.true (c.class_of.ensures ∙ e))) (λ e. absurd (c.requires.2 e))

pub overflow_sub-v-in-loop-i : goal.overflow_sub-v-in-loop-i
overflow_sub-v-in-loop-i c = omega (arith, digit_range _ (sym c.class_of.ensures ∙ c.if-class_of-ne-DIGIT.false))

pub loop-i-preserved : goal.loop-i-preserved
loop-i-preserved c =
    digits_step c.args.s.now c.args.at c.loop-i.v c.loop-i.i c.loop-i.invariant (omega arith) (sym c.class_of.ensures ∙ c.if-class_of-ne-DIGIT.false) (omega arith)

pub returns-then-class_at-eq-DIGIT : goal.returns-then-class_at-eq-DIGIT
returns-then-class_at-eq-DIGIT c =
    let end : c.loop-i.i ≡ c.args.at + c.min.result = omega (arith, c.requires.0) in
    let e : class_of (get_or c.args.s.now (c.args.at + c.min.result) 0) ≡ 1 = sym c.class_at.ensures ∙ c.if-class_at-eq-DIGIT.true in
    digits-many c.args.s.now c.args.at c.loop-i.v (c.args.at + c.min.result) (subst (Digits c.args.s.now c.args.at c.loop-i.v) end c.loop-i.invariant) (omega arith)
    (omega (arith, class_inside c.args.s.now (c.args.at + c.min.result) (omega arith))) e

pub returns : goal.returns
returns c =
    let end : c.loop-i.i ≡ c.args.at + c.min.result = omega (arith, c.requires.0) in
    digits-done c.args.s.now c.args.at c.loop-i.v (c.args.at + c.min.result) (subst (Digits c.args.s.now c.args.at c.loop-i.v) end c.loop-i.invariant) (omega arith)
    (digits_stop c.args.s.now (c.args.at + c.min.result) (λ e. c.if-class_at-eq-DIGIT.false (c.class_at.ensures ∙ e))) (λ e. absurd (c.requires.2 e))
