-- `check_roof`: the matrix, each crew's displacements, then the plan.
use mathlib.Core.Bool.{true, not}
use mathlib.Core.Path.{◌≡◌, sym, ap}
use Rattle.std.proofs.Common.{Err, arith}
use Rattle.base.proofs.Booleans.{fails, holds}
use Rattle.matrix.specs.Matrix.{is_matrix}
use Rattle.matrix.specs.Held.{held}
use Rattle.matrix.proofs.Checks.{shape, matrix_tidy}
use Rattle.shared.proofs.RoofChecked.{roof_unmade, roof_unmoved0, roof_unmoved1, roof_unsound, roof_taken}
use borrow.Author.Rules.{rules}
use Rattle.shared.proofs.checks.check_roof.Goals as goal
use Rattle.shared.proofs.checks.check_roof.Goals.{Else-not-is_matrix}

is_made : (c : Else-not-is_matrix) → is_matrix (held c.args.roof.now.matrix) ≡ true
is_made c = holds c.is_matrix.ensures (ap not c.if-not-is_matrix.false)

pub returns-then-not-is_matrix : goal.returns-then-not-is_matrix
returns-then-not-is_matrix c = sym (roof_unmade _ _ _ _ _ (fails c.is_matrix.ensures (ap not c.if-not-is_matrix.true)))

pub overflow_cast-rows : goal.overflow_cast-rows
overflow_cast-rows c =
    let few = (shape _ (matrix_tidy _ (is_made (goal.at.overflow_cast-rows c).Else-not-is_matrix)).shape).few in
    search rules

pub returns-in_err-check_displacements : goal.returns-in_err-check_displacements
returns-in_err-check_displacements c =
    let up : c.from_residual.result ≡ Err c.in_err-check_displacements.field-0.0 = grind arith in
    rw up (sym (roof_unmoved0 _ _ _ _ _ (is_made (goal.at.returns-in_err-check_displacements c).Else-not-is_matrix) _ _ c.in_err-check_displacements.ensures))

pub returns-in_err-check_displacements-2 : goal.returns-in_err-check_displacements-2
returns-in_err-check_displacements-2 c =
    let up : c.from_residual-in_err-check_displacements-2.result ≡ Err c.in_err-check_displacements-2.field-0.0 = grind arith in
    rw up (sym (roof_unmoved1 _ _ _ _ _ (is_made (goal.at.returns-in_err-check_displacements-2 c).Else-not-is_matrix) _ c.in_ok-check_displacements.ensures _ _ c.in_err-check_displacements-2.ensures))

pub is_plan-requires : goal.is_plan-requires
is_plan-requires c = (c.args.roof.now.matrix.values.now, is_made (goal.at.is_plan-requires c).Else-not-is_matrix)

pub returns-then-not-is_plan : goal.returns-then-not-is_plan
returns-then-not-is_plan c =
    sym (roof_unsound _ _ _ _ _ (is_made (goal.at.returns-then-not-is_plan c).Else-not-is_matrix) _ c.in_ok-check_displacements.ensures _ c.in_ok-check_displacements-2.ensures (fails (c.is_plan.ensures c.args.roof.now.matrix.values.now) (ap not c.if-not-is_plan.true)))

pub returns : goal.returns
returns c =
    sym (roof_taken _ _ _ _ _ (is_made (goal.at.returns c).Else-not-is_matrix) _ c.in_ok-check_displacements.ensures _ c.in_ok-check_displacements-2.ensures (holds (c.is_plan.ensures c.args.roof.now.matrix.values.now) (ap not c.if-not-is_plan.false)))
