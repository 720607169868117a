-- `gather`: row by row.
use Prim.Native.Nat.{◌+◌}
use Rattle.matrix.specs.Held.{held}
use Rattle.compress.specs.Code.Entries.{listed}
use Rattle.joined.specs.Code.Rows.{Before}
use Rattle.joined.proofs.Rows.{Going}
use Rattle.joined.proofs.gather.gather.Given as goal

abbrev pub invariant-loop-i : goal.invariant-loop-i
invariant-loop-i l =
    Going (held l.first) (held l.second) l.places l.n l.i (listed l.list) × Before (l.i + 1) l.tables.marks × Before (l.i + 1) l.tables.seen
