-- `picks::is_taken`, case by case.
use Rattle.calls.proofs.Performing.{takes_some, takes_none}
use Rattle.calls.proofs.picks.is_taken.Goals as goal

pub returns-in-Picks : goal.returns-in-Picks
returns-in-Picks c = takes_some c.args.call c.in-Picks.is

pub returns-in_default : goal.returns-in_default
returns-in_default c = takes_none c.args.call c.in_default.not-Picks c.in_default.not-Rounds
