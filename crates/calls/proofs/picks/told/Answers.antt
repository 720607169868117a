-- `picks::told`: a preview tells who is ready, too.
use Rattle.run.specs.Answers.{shown, bits_told, count_told}
use Rattle.calls.specs.Code.Made.{told_by}
use Rattle.calls.proofs.Performing.{told-picks}
use Rattle.calls.proofs.picks.told.Goals as goal

pub returns-in-Preview : goal.returns-in-Preview
unfolding told_by shown bits_told count_told
returns-in-Preview c zs = rw c.in-Preview.is

pub returns : goal.returns
returns c zs = told-picks c.args.call c.in_default.not-Preview _ _
