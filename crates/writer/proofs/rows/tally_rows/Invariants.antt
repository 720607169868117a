-- `tally_rows` meets its contract: each turn counts one row.
use Rattle.matrix.specs.Held.{held}
use Rattle.market.specs.Text.{lower}
use Rattle.writer.proofs.rows.Tallies.{Tallying}
use Rattle.writer.proofs.rows.Rows.{lower_left}
use Rattle.writer.proofs.rows.tally_rows.Given as goal

abbrev pub invariant-loop-j : goal.invariant-loop-j
invariant-loop-j l = Tallying (lower (held l.m)) (lower_left (held l.m) l.j) l.entries l.bytes
