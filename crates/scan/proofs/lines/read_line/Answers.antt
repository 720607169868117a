-- `read_line` meets its contract.
use borrow.Author.Rules.{rules}
use mathlib.Core.Path.{sym, ◌∙◌}
use mir.Syntax.{w64}
use mir.Val.{SFits}
use mir.Facts.{to_z-of_z}
use Rattle.scan.proofs.lines.Lines.{line-one, line-two, line_three, line-short, line_bad, line_good}
use Rattle.scan.proofs.lines.read_line.Goals as goal

pub returns-in_err-row : goal.returns-in_err-row
returns-in_err-row c = c.from_residual.ensures ∙ line-one c.args.s.now c.args.at c.in_err-row.ensures

pub returns-in_err-column : goal.returns-in_err-column
returns-in_err-column c =
    c.from_residual-in_err-column.ensures ∙ line-two c.args.s.now c.args.at c.in_ok-row.row c.in_ok-row.p c.in_ok-row.ensures c.in_err-column.ensures

pub returns-in_err-value : goal.returns-in_err-value
returns-in_err-value c =
    c.from_residual-in_err-value.ensures
    ∙ line_three c.args.s.now c.args.at c.in_ok-row.row c.in_ok-row.p c.in_ok-row.ensures c.in_ok-column.column c.in_ok-column.q c.in_ok-column.ensures c.in_err-value.ensures

pub returns-then-s-e : goal.returns-then-s-e
returns-then-s-e c =
    line-short c.args.s.now c.args.at c.in_ok-row.row c.in_ok-row.p c.in_ok-row.ensures c.in_ok-column.column c.in_ok-column.q c.in_ok-column.ensures c.in_ok-value.value c.in_ok-value.e c.in_ok-value.ensures
    c.if-s-e.true

pub returns-then-class_of-ne-LINE_END : goal.returns-then-class_of-ne-LINE_END
returns-then-class_of-ne-LINE_END c =
    line_bad c.args.s.now c.args.at c.in_ok-row.row c.in_ok-row.p c.in_ok-row.ensures c.in_ok-column.column c.in_ok-column.q c.in_ok-column.ensures c.in_ok-value.value c.in_ok-value.e c.in_ok-value.ensures
    c.if-s-e.false (λ e. c.if-class_of-ne-LINE_END.true (c.class_of.ensures ∙ e))

pub returns : goal.returns
returns c =
    let in-range : SFits w64 c.in_ok-value.value = search rules in
    rw (to_z-of_z in-range)
    (line_good c.args.s.now c.args.at c.in_ok-row.row c.in_ok-row.p c.in_ok-row.ensures c.in_ok-column.column c.in_ok-column.q c.in_ok-column.ensures c.in_ok-value.value c.in_ok-value.e c.in_ok-value.ensures
    c.if-s-e.false (sym c.class_of.ensures ∙ c.if-class_of-ne-LINE_END.false))
