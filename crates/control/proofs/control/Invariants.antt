-- `control` meets its contract: a turn weighs one force more.
use Rattle.words.specs.LittleEndian.{signed}
use Rattle.control.proofs.Weighing.{Weighing}
use Rattle.control.proofs.control.Given as goal

abbrev pub invariant-loop-i : goal.invariant-loop-i
invariant-loop-i l = Weighing (signed 8 l.forces) l.sum l.weight l.i
