-- `check_job`: the matrix, its displacements, then the plan.
use mathlib.Core.Bool.{true, not}
use mathlib.Core.Path.{◌≡◌, sym, ap}
use Rattle.std.proofs.Common.{Err, arith}
use Rattle.base.proofs.Booleans.{fails, holds}
use Rattle.matrix.specs.Matrix.{is_matrix}
use Rattle.matrix.proofs.Checks.{shape, matrix_tidy}
use Rattle.matrix.specs.Held.{held}
use Rattle.calls.proofs.JobChecked.{job_unmade, job-unmoved, job-unsound, job-taken}
use borrow.Author.Rules.{rules}
use Rattle.calls.proofs.check_job.Goals as goal
use Rattle.calls.proofs.check_job.Goals.{Else-not-is_matrix}

is_made : (c : Else-not-is_matrix) → is_matrix (held c.args.job.now.matrix) ≡ true
is_made c = holds c.is_matrix.ensures (ap not c.if-not-is_matrix.false)

pub returns-then-not-is_matrix : goal.returns-then-not-is_matrix
returns-then-not-is_matrix c = sym (job_unmade _ _ _ _ _ (fails c.is_matrix.ensures (ap not c.if-not-is_matrix.true)))

pub overflow_cast-job : goal.overflow_cast-job
overflow_cast-job c =
    let few = (shape _ (matrix_tidy _ (is_made (goal.at.overflow_cast-job c).Else-not-is_matrix)).shape).few in
    search rules

pub returns-in_err-check_displacements : goal.returns-in_err-check_displacements
returns-in_err-check_displacements c =
    let up : c.from_residual.result ≡ Err c.in_err-check_displacements.field-0.0 = grind arith in
    rw up (sym (job-unmoved _ _ _ _ _ (is_made (goal.at.returns-in_err-check_displacements c).Else-not-is_matrix) _ _ c.in_err-check_displacements.ensures))

pub is_plan-requires : goal.is_plan-requires
is_plan-requires c = (c.args.job.now.matrix.values.now, is_made (goal.at.is_plan-requires c).Else-not-is_matrix)

pub returns-then-not-is_plan : goal.returns-then-not-is_plan
returns-then-not-is_plan c =
    sym (job-unsound _ _ _ _ _ (is_made (goal.at.returns-then-not-is_plan c).Else-not-is_matrix) _ c.in_ok-check_displacements.ensures (fails (c.is_plan.ensures c.args.job.now.matrix.values.now) (ap not c.if-not-is_plan.true)))

pub returns : goal.returns
returns c =
    sym (job-taken _ _ _ _ _ (is_made (goal.at.returns c).Else-not-is_matrix) _ c.in_ok-check_displacements.ensures (holds (c.is_plan.ensures c.args.job.now.matrix.values.now) (ap not c.if-not-is_plan.false)))
