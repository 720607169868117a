-- `Records::open_reds` meets its contract: the records from index i on are treated.
use Prim.Native.Nat.{◌≤◌}
use Rattle.waits.specs.Code.Recorded.{size_of}
use Rattle.waits.proofs.PassTurns.{Backward}
use Rattle.waits.proofs.records.Records.open_reds.Given as goal

abbrev pub invariant-loop-i : goal.invariant-loop-i
invariant-loop-i l = (1 ≤ l.i) × Backward (size_of l.self) l.self.groups.now l.self.ends.now l.made l.i l.parents l.opens l.reds
