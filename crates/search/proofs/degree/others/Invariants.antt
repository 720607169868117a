-- After i turns k is how many of the first i columns are not v.
use mathlib.Core.Path.{◌≡◌}
use mathlib.Core.Bool.{not}
use lib.Dec.{eqb}
use lib.ListN.{length, take}
use Rattle.base.specs.Lists.{filter}
use Rattle.search.proofs.degree.others.Given as goal

abbrev pub invariant-loop-j : goal.invariant-loop-j
invariant-loop-j l = l.k ≡ length (filter (λ j. not (eqb j l.v)) (take l.j-index l.row))
