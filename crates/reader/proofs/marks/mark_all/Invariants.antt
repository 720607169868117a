-- `mark_all` meets its contract: each turn marks one entry.
use Rattle.compress.specs.Code.Arrays.{triplets_of}
use Rattle.reader.specs.Code.Marks.{Marks}
use Rattle.reader.proofs.marks.mark_all.Given as goal

abbrev pub invariant-loop-k : goal.invariant-loop-k
invariant-loop-k l = Marks l.marks (triplets_of l.k l.list.rows l.list.columns l.list.values)
