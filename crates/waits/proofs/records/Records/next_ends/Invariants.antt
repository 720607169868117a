-- `Records::next_ends` meets its contract: the records before index i are treated.
use Rattle.waits.specs.Code.Waits.{Ahead}
use Rattle.waits.proofs.records.Records.next_ends.Given as goal

abbrev pub invariant-loop-i : goal.invariant-loop-i
invariant-loop-i l = Ahead l.i l.self.groups.now l.self.ends.now l.made l.stops
