-- `put_digits` meets its contract: each turn puts the last digit that is left.
use Rattle.market.proofs.digits.Spelling.{Spelling}
use Rattle.market.proofs.digits.put_digits.Given as goal

abbrev pub invariant-loop-x : goal.invariant-loop-x
invariant-loop-x l = Spelling l.v l.end l.initial.text l.text l.x l.i

abbrev pub decreases-loop-x : goal.decreases-loop-x
decreases-loop-x l = l.x
