-- `judge` meets its contract: a turn reads one line.
use Rattle.std.proofs.Common.{◌-◌, length}
use Rattle.numbers.proofs.read.Judging.{Judging}
use Rattle.numbers.proofs.read.judge.Given as goal

abbrev pub invariant-loop-at : goal.invariant-loop-at
invariant-loop-at l = Judging l.text l.count l.at

abbrev pub decreases-loop-at : goal.decreases-loop-at
decreases-loop-at l = length l.text - l.at
