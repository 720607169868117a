-- `order::mark_rows`: after i turns the marks say which rows are among the first i of the list.
use lib.ListN.{take}
use Rattle.shape.specs.Code.Shape.{Seen}
use Rattle.shape.proofs.order.mark_rows.Given as goal

abbrev pub invariant-loop-v : goal.invariant-loop-v
invariant-loop-v l = Seen l.n (take l.v-index l.rows) l.marks
