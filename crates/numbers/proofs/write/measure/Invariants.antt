-- `measure` meets its contract: a turn measures one line.
use Rattle.words.specs.LittleEndian.{signed}
use Rattle.numbers.proofs.write.Measuring.{Measuring}
use Rattle.numbers.proofs.write.measure.Given as goal

abbrev pub invariant-loop-k : goal.invariant-loop-k
invariant-loop-k l = Measuring (signed 8 l.numbers) l.room l.needed l.left l.over l.k
