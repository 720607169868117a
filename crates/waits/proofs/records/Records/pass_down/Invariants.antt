-- `Records::pass_down` meets its contract: the records before index i are treated.
use Rattle.waits.specs.Code.Waits.{Passed}
use Rattle.waits.proofs.records.Records.pass_down.Given as goal

abbrev pub invariant-loop-i : goal.invariant-loop-i
invariant-loop-i l = Passed l.i l.self.groups.now l.reds l.blocks
