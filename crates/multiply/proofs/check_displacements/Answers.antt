-- `check_displacements`: the first that passes its limit is no place past the list.
use native.Mathlib.Omega.{arith}
use Rattle.matrix.proofs.Within.{past-low}
use Rattle.multiply.proofs.check_displacements.Goals as goal

pub overflow_cast-place : goal.overflow_cast-place
overflow_cast-place c = omega (arith, past-low)
