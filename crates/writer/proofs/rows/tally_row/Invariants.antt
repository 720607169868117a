-- `tally_row` meets its contract: each turn counts one entry.
use lib.ListN.{drop}
use Rattle.writer.specs.Code.Puts.{from_diagonal}
use Rattle.writer.proofs.rows.Tallies.{Tallying}
use Rattle.writer.proofs.rows.tally_row.Given as goal

abbrev pub invariant-loop-k : goal.invariant-loop-k
invariant-loop-k l = Tallying (from_diagonal l.j l.columns l.values) (from_diagonal l.j (drop l.k l.columns) (drop l.k l.values)) l.entries l.bytes
