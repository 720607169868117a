-- `put_row` meets its contract: each turn puts one line.
use lib.ListN.{drop}
use Rattle.writer.specs.Code.Puts.{from_diagonal, lines_of}
use Rattle.writer.proofs.puts.Putting.{Putting}
use Rattle.writer.proofs.rows.put_row.Given as goal

abbrev pub invariant-loop-k : goal.invariant-loop-k
invariant-loop-k l = Putting (lines_of (from_diagonal l.j l.columns l.values)) (lines_of (from_diagonal l.j (drop l.k l.columns) (drop l.k l.values))) l.at l.p l.initial.text l.text
