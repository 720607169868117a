-- `read_digits` meets its contract: a turn reads one digit.
use Rattle.numbers.proofs.digits.Reading.{Reading}
use Rattle.numbers.proofs.digits.read_digits.Given as goal

abbrev pub invariant-loop-i : goal.invariant-loop-i
invariant-loop-i l = Reading l.text l.at l.value l.i
