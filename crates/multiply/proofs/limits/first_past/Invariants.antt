use mathlib.Core.Path.{◌≡◌}
use Prim.Native.Nat.{◌+◌}
use lib.ListN.{drop}
use Rattle.matrix.specs.Matrix.{first_past}
use Rattle.multiply.proofs.limits.first_past.Given as goal

abbrev pub invariant-loop-k : goal.invariant-loop-k
invariant-loop-k l = first_past l.limit l.numbers ≡ l.k + first_past l.limit (drop l.k l.numbers)
