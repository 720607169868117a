-- `red_ends` meets its contract: the records from index i on are treated.
use Prim.Native.Nat.{◌≤◌}
use Rattle.preparing.proofs.Passes.{Backward}
use Rattle.preparing.proofs.gates.red_ends.Given as goal

abbrev pub invariant-loop-i : goal.invariant-loop-i
invariant-loop-i l = (1 ≤ l.i) × Backward l.count l.groups l.ends l.v l.i l.parents l.lasts l.reds
