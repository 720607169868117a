-- `row::force`: the sum of the terms passed.
use mathlib.Core.Path.{◌≡◌}
use Rattle.base.specs.Integers.{sumℤ}
use Rattle.multiply.proofs.RowForce.{term}
use Rattle.multiply.proofs.row.force.Given as goal

abbrev pub invariant-loop-k : goal.invariant-loop-k
invariant-loop-k l = l.sum ≡ sumℤ (term l.columns l.values l.displacements) l.k
