-- `picks::rule_of`: rounds alone pass over picks.
use Rattle.calls.specs.Code.Made.{rule_of}
use Rattle.calls.proofs.Performing.{rule_stops}
use Rattle.calls.proofs.picks.rule_of.Goals as goal

pub returns-in-Rounds : goal.returns-in-Rounds
unfolding rule_of
returns-in-Rounds c = rw c.in-Rounds.is

pub returns : goal.returns
returns c = rule_stops c.args.call c.in_default.not-Rounds
