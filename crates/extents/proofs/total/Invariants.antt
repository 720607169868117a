-- sum is the load of the first k levels.
use mathlib.Core.Path.{◌≡◌}
use lib.ListN.{take}
use Rattle.base.specs.Lists.{sum}
use Rattle.extents.proofs.total.Given as goal

abbrev pub invariant-loop-q : goal.invariant-loop-q
invariant-loop-q l = l.sum ≡ sum (take l.q-index l.loads)
