-- `Cursor::past`: one column more, or none.
use mathlib.Core.Path.{sym, ◌∙◌}
use Rattle.survey.proofs.Rows.{passed-one, passed-same}
use Rattle.survey.proofs.shift.Cursor.past.Goals as goal

pub returns-then-stands : goal.returns-then-stands
returns-then-stands c = passed-one c.args.self.now.passed (sym c.stands.ensures ∙ c.if-stands.true)

pub returns-else-stands : goal.returns-else-stands
returns-else-stands c = passed-same c.args.self.now.passed (sym c.stands.ensures ∙ c.if-stands.false)
