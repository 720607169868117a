-- sum is the load of the first i rows.
use mathlib.Core.Path.{◌≡◌}
use lib.ListN.{take}
use Rattle.loads.specs.Code.Stretches.{key_load}
use Rattle.loads.proofs.load.Given as goal

abbrev pub invariant-loop-v : goal.invariant-loop-v
invariant-loop-v l = l.sum ≡ key_load l.keys (take l.v-index l.rows)
