-- `sizes`: the sum of the sizes passed.
use mathlib.Core.Path.{◌≡◌}
use lib.IntN.{pos}
use Rattle.survey.specs.Code.Rows.{sizes_to}
use Rattle.survey.proofs.amounts.sizes.Given as goal

abbrev pub invariant-loop-v : goal.invariant-loop-v
invariant-loop-v l = l.sum ≡ pos (sizes_to l.values l.v-index)
