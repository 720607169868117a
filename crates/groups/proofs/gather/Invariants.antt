-- Each turn writes one group more to the front of the slice.
use mathlib.Core.Path.{◌≡◌}
use Rattle.groups.specs.Code.Flattened.{gathered}
use Rattle.groups.proofs.gather.Given as goal

abbrev pub invariant-loop-k : goal.invariant-loop-k
invariant-loop-k l = l.groups ≡ gathered l.k l.numbers l.initial.groups
