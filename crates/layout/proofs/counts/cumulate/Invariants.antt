-- `counts::cumulate` meets its contract: the numbers up to place w are sums.
use Rattle.layout.proofs.CountRows.{Summed}
use Rattle.layout.proofs.counts.cumulate.Given as goal

abbrev pub invariant-loop-w : goal.invariant-loop-w
invariant-loop-w l = Summed l.initial.first l.w l.first
