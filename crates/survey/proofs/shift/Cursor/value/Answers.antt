-- `Cursor::value`: the value beside the column, or 0.
use mathlib.Core.Path.{sym, ◌∙◌}
use native.Mathlib.Omega.{arith}
use borrow.Author.Rules.{rules}
use Rattle.matrix.proofs.Matrix.{lookup-none}
use Rattle.survey.proofs.Rows.{place_low, value-here}
use Rattle.survey.proofs.shift.Cursor.value.Goals as goal

pub bounds-values-self : goal.bounds-values-self
bounds-values-self c = omega (arith, place_low c.args.self.now.passed (sym c.stands.ensures ∙ c.if-stands.true))

pub returns-then-stands : goal.returns-then-stands
returns-then-stands c =
    let v = value-here c.args.self.now.passed c.args.values.now (sym c.stands.ensures ∙ c.if-stands.true) in search rules

pub returns-else-stands : goal.returns-else-stands
returns-else-stands c =
    let a = c.args in
    sym (lookup-none a.self.now.j a.self.now.columns.now a.values.now (sym c.stands.ensures ∙ c.if-stands.false))
