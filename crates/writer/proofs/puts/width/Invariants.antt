-- `width` meets its contract: each turn tests one power of ten.
use Prim.Native.Nat.{◌≤◌}
use Rattle.writer.proofs.puts.Widths.{Reached}
use Rattle.writer.proofs.puts.width.Given as goal

abbrev pub invariant-loop-k : goal.invariant-loop-k
invariant-loop-k l = Reached l.v l._k l.power l.digits × (l._k ≤ l.most)
