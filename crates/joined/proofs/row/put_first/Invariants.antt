-- `put_first`: the entries of the columns passed.
use Rattle.compress.specs.Code.Entries.{listed}
use Rattle.joined.specs.Code.Rows.{from_first, held_at, Added}
use Rattle.joined.proofs.row.put_first.Given as goal

abbrev pub invariant-loop-k : goal.invariant-loop-k
invariant-loop-k l =
    Added (from_first l.i l.row.columns.now l.row.values.now (held_at l.tables.turn l.tables.marks l.tables.held) l.k) (listed l.initial.list) (listed l.list)
