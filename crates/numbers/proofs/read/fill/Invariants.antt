-- `fill` meets its contract: a turn stores one number.
use Rattle.std.proofs.Common.{◌-◌, length}
use Rattle.numbers.proofs.read.Filling.{Filling}
use Rattle.numbers.proofs.read.fill.Given as goal

abbrev pub invariant-loop-at : goal.invariant-loop-at
invariant-loop-at l = Filling l.text l.initial.list l.list l.k l.at

abbrev pub decreases-loop-at : goal.decreases-loop-at
decreases-loop-at l = length l.text - l.at
