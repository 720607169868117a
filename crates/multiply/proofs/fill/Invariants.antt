-- `fill`: the forces of the rows passed, then what is left of the old list.
use mathlib.Core.Path.{◌≡◌}
use Rattle.base.proofs.Fill.{filled}
use Rattle.matrix.specs.Held.{held}
use Rattle.matrix.specs.Product.{force_at}
use Rattle.multiply.proofs.fill.Given as goal

abbrev pub invariant-loop-i : goal.invariant-loop-i
invariant-loop-i l = l.forces ≡ filled (force_at (held l.m) l.displacements) l.initial.forces l.i
