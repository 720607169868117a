-- `put_second`: the entries of the columns passed.
use Rattle.compress.specs.Code.Entries.{listed}
use Rattle.joined.specs.Code.Rows.{from_second, marked, Added}
use Rattle.joined.proofs.row.put_second.Given as goal

abbrev pub invariant-loop-k : goal.invariant-loop-k
invariant-loop-k l =
    Added (from_second l.i l.row.places.now l.row.columns.now l.row.values.now (marked l.tables.turn l.tables.seen) l.k) (listed l.initial.list) (listed l.list)
