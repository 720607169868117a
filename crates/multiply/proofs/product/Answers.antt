-- `product`: what the checks in turn found.
use mathlib.Core.Path.{◌≡◌}
use mathlib.Core.Bool.{true}
use native.Mathlib.Omega.{arith}
use Rattle.base.proofs.Replies.{checked_accepted}
use Rattle.matrix.specs.Matrix.{is_matrix, displacement_check}
use Rattle.matrix.specs.Held.{held}
use Rattle.matrix.proofs.Checks.{shape, matrix_tidy}
use Rattle.multiply.proofs.product.Goals as goal

pub overflow_cast-n : goal.overflow_cast-n
overflow_cast-n c =
    let made : is_matrix (held c.args.m.now) ≡ true = cc in
    omega (arith, (shape _ (matrix_tidy _ made).shape).few)

pub fill-requires : goal.fill-requires
unfolding displacement_check
fill-requires c = record {
  matrix = cc;
  moved = checked_accepted (displacement_check c.args.m.now.n c.args.displacements.now) 0 c.in_ok-check_displacements.ensures;
  long = omega arith;
}
