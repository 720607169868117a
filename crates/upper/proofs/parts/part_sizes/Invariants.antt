-- `parts::part_sizes` meets its contract: the positions before p have their sizes.
use Rattle.upper.proofs.PartSizesNames.{Sized}
use Rattle.upper.proofs.parts.part_sizes.Given as goal

abbrev pub invariant-loop-p : goal.invariant-loop-p
invariant-loop-p l = Sized l.parts l.initial.ends l.p l.ends
