-- `put_rows` meets its contract: each turn puts one row.
use Rattle.matrix.specs.Held.{held}
use Rattle.market.specs.Text.{lower}
use Rattle.writer.specs.Code.Puts.{lines_of}
use Rattle.writer.proofs.puts.Putting.{Putting}
use Rattle.writer.proofs.rows.Rows.{lower_left}
use Rattle.writer.proofs.rows.put_rows.Given as goal

abbrev pub invariant-loop-j : goal.invariant-loop-j
invariant-loop-j l = Putting (lines_of (lower (held l.m))) (lines_of (lower_left (held l.m) l.j)) l.at l.p l.initial.text l.text
