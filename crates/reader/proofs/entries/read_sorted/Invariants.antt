-- `read_sorted` meets its contract: each turn takes one line whose place comes after those before.
use Rattle.compress.specs.Code.Entries.{listed}
use Rattle.reader.proofs.entries.Rising.{Sorted}
use Rattle.reader.proofs.entries.read_sorted.Given as goal

abbrev pub invariant-loop-i : goal.invariant-loop-i
invariant-loop-i l = Sorted l.s l.at l.size (listed l.list) l.low l.p l._i
