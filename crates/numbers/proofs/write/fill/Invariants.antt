-- `fill` meets its contract: a turn puts the last line that is left.
use Rattle.words.specs.LittleEndian.{signed}
use Rattle.numbers.proofs.write.Writing.{Writing}
use Rattle.numbers.proofs.write.fill.Given as goal

abbrev pub invariant-loop-k : goal.invariant-loop-k
invariant-loop-k l = Writing (signed 8 l.numbers) l.initial.text l.text l.k l.at
