-- `copy` meets its contract: k bytes are copied.
use mathlib.Core.Path.{◌≡◌}
use lib.ListN.{take, drop}
use lib.Seq.{sets}
use Rattle.words.proofs.copy.copy.Given as goal

abbrev pub invariant-loop-k : goal.invariant-loop-k
invariant-loop-k l = l.to ≡ sets l.initial.to l.at (take l.k (drop l.start l.from))
