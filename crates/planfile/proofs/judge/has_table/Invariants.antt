-- `has_table` meets its contract: what is left to compare decides.
use mathlib.Core.Path.{◌≡◌}
use Prim.Native.Nat.{◌≤◌}
use lib.ListN.{length, drop}
use Rattle.base.specs.Lists.{begins}
use Rattle.words.specs.LittleEndian.{unsigned}
use Rattle.planfile.proofs.judge.has_table.Given as goal

abbrev pub invariant-loop-k : goal.invariant-loop-k
invariant-loop-k l = (l.k ≤ length l.table) × (begins (drop l.k (unsigned 4 l.file)) (drop l.k l.table) ≡ begins (unsigned 4 l.file) l.table)
