-- `head_numbers` meets its contract: those of the workers before w are there.
use Rattle.preparing.specs.Code.Rows.{HeadTo}
use Rattle.preparing.proofs.rows.head_numbers.Given as goal

abbrev pub invariant-loop-w : goal.invariant-loop-w
invariant-loop-w l = HeadTo l.w l.n l.workers l.first l.head
