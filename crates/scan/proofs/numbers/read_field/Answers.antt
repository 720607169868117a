-- `read_field` meets its contract.
use borrow.Author.Rules.{rules}
use mathlib.Core.Path.{◌≡◌, sym, ◌∙◌}
use native.Mathlib.Omega.{arith}
use lib.ListN.{get_or}
use Rattle.market.specs.Bytes.{class_of}
use Rattle.scan.proofs.numbers.Scanning.{class_inside, spaces_stop, spaces_led}
use Rattle.scan.proofs.numbers.Answers.{field-none, field-some}
use Rattle.scan.proofs.numbers.read_field.Goals as goal

pub returns-then-class_at-ne-SPACE : goal.returns-then-class_at-ne-SPACE
returns-then-class_at-ne-SPACE c =
    let a = c.args in
    field-none a.s.now a.at (spaces_stop a.s.now a.at (λ e. c.if-class_at-ne-SPACE.true (c.class_at.ensures ∙ e)))

pub overflow_add-at : goal.overflow_add-at
overflow_add-at c =
    let space : let a = c.args in class_of (get_or a.s.now a.at 0) ≡ 3 = sym c.class_at.ensures ∙ c.if-class_at-ne-SPACE.false in
    let a = c.args in
    let h = class_inside a.s.now a.at (omega (arith, space)) in
    search rules

pub returns : goal.returns
returns c =
    let space : let a = c.args in class_of (get_or a.s.now a.at 0) ≡ 3 = sym c.class_at.ensures ∙ c.if-class_at-ne-SPACE.false in
    let a = c.args in
    let g = spaces_led a.s.now a.at space c.skip_spaces.result c.skip_spaces.ensures in
    c.read_number.ensures ∙ field-some a.s.now a.at c.skip_spaces.result g.0 g.1
