-- `nesting::up_to`: the parent is looked for from the end of the path on.
use mathlib.Core.Path.{◌≡◌}
use lib.Dec.{eqb}
use Rattle.base.specs.Lists.{from_first}
use Rattle.shape.specs.Code.Shape.{path_of}
use Rattle.shape.proofs.nesting.up_to.Given as goal

abbrev pub invariant-loop-k : goal.invariant-loop-k
invariant-loop-k l = from_first (eqb l.parent) (path_of l.path l.k) ≡ from_first (eqb l.parent) (path_of l.path l.t)
