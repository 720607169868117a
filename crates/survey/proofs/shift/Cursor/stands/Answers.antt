-- `Cursor::stands`: at place k the column stands, or nowhere.
use mathlib.Core.Path.{◌∙◌}
use borrow.Author.Tests.{le-ltb}
use Rattle.survey.proofs.Rows.{stands_none, stands_at}
use Rattle.survey.proofs.shift.Cursor.stands.Goals as goal

pub returns-then-self : goal.returns-then-self
returns-then-self c = stands_at c.args.self.now.passed c.if-self.true

pub returns-else-self : goal.returns-else-self
returns-else-self c = le-ltb _ _ c.if-self.false ∙ stands_none c.args.self.now.passed c.if-self.false
