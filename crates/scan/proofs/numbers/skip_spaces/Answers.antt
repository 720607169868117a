use mathlib.Core.Path.{sym, ◌∙◌}
use native.Mathlib.Omega.{arith}
use Rattle.scan.proofs.numbers.Scanning.{spaces_more, spaces_stop, spaces_end}
use Rattle.scan.proofs.numbers.skip_spaces.Goals as goal

pub returns-then-class_of-ne-SPACE : goal.returns-then-class_of-ne-SPACE
returns-then-class_of-ne-SPACE c =
    let a = c.args in
    omega (arith, spaces_stop a.s.now c.loop-i.i (λ e. c.if-class_of-ne-SPACE.true (c.class_of.ensures ∙ e)))

pub loop-i-preserved : goal.loop-i-preserved
loop-i-preserved c =
    let a = c.args in
    omega (arith, spaces_more a.s.now c.loop-i.i c.loop-i-test.true (sym c.class_of.ensures ∙ c.if-class_of-ne-SPACE.false))

pub returns : goal.returns
returns c = grind (arith, spaces_end c.args.s.now c.args.at, spaces_end c.args.s.now c.loop-i.i)
