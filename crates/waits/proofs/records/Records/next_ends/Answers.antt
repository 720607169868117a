use Rattle.waits.proofs.PassTurns.{ahead_none}
use Rattle.waits.proofs.records.Records.next_ends.Goals as goal

pub loop-i-init : goal.loop-i-init
loop-i-init c = let r = c.args.self.now in ahead_none r.groups.now r.ends.now c.args.made.now 4294967295
