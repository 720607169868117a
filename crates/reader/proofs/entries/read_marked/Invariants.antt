-- `read_marked` meets its contract: each turn takes one line whose place is not marked, and marks it.
use Rattle.compress.specs.Code.Entries.{listed}
use Rattle.reader.specs.Code.Entries.{remaining}
use Rattle.reader.proofs.entries.Marking.{Going}
use Rattle.reader.proofs.entries.read_marked.Given as goal

abbrev pub invariant-loop-i : goal.invariant-loop-i
invariant-loop-i l = Going (remaining l.s l.size (listed l.initial.list) l.initial.p) l.s l.size (listed l.list) l.marks l.p l.i
