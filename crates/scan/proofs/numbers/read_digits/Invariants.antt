-- `read_digits` meets its contract: each turn takes one digit more.
use Rattle.scan.proofs.numbers.Digits.{Digits}
use Rattle.scan.proofs.numbers.read_digits.Given as goal

abbrev pub invariant-loop-i : goal.invariant-loop-i
invariant-loop-i l = Digits l.s l.at l.v l.i
