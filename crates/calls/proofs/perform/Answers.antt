-- `perform`: the lists, the number of sums, then what is asked.
use mathlib.Core.Path.{◌≡◌, refl, sym, ◌∙◌}
use Prim.Native.Nat.{◌*◌}
use lib.ListN.{take}
use lib.Seq.{length-take-le}
use Rattle.std.proofs.Common.{Err, arith}
use borrow.Author.Rules.{rules}
use Rattle.plan.specs.Groups.{width}
use Rattle.matrix.specs.Held.{held}
use Rattle.run.specs.Job.{job_of}
use Rattle.layout.specs.Code.UpdateTable.{Given}
use Rattle.calls.proofs.Prepared.{passed-given, cut-job, cut-given}
use Rattle.calls.proofs.Performing.{state-size, made-refused, made-picks, lists-refused, performed}
use Rattle.calls.proofs.perform.Goals as goal
use Rattle.calls.proofs.perform.Goals.{In_ok-check_job}

-- the lists hold a job
given : (c : In_ok-check_job) → let j = c.args.job.now in Given j.matrix.n j.matrix.starts.now j.matrix.columns.now j.matrix.values.now j.displacements.now j.plan.order.now j.plan.groups.now j.plan.count
given c = passed-given 0 c.in_ok-check_job.ensures

pub returns-in_err-check_job : goal.returns-in_err-check_job
returns-in_err-check_job c =
    let up : c.from_residual.result ≡ Err c.in_err-check_job.field-0.0 = grind arith in
    rw up (lists-refused _ _ _ _ _ _ _ _ _ _ c.in_err-check_job.ensures)

pub returns-then-sums-job : goal.returns-then-sums-job
unfolding job_of
returns-then-sums-job c =
    let j = c.args.job.now in
    performed _ _ _ _ _ _ _ _ c.in_ok-check_job.ensures refl (made-refused _ _ _ _ (state-size (job_of (held j.matrix) j.displacements.now j.plan.order.now j.plan.groups.now j.plan.count) _ c.if-sums-job.true))

-- ---- the plan's records
pub overflow_mul-records : goal.overflow_mul-records
overflow_mul-records c = let long = (given (goal.at.overflow_mul-records c).In_ok-check_job).groups_long in search rules

pub slice_bounds-records-end : goal.slice_bounds-records-end
slice_bounds-records-end c =
    let j = c.args.job.now in
    sym (length-take-le (width * j.plan.count) j.plan.groups.now (given (goal.at.slice_bounds-records-end c).In_ok-check_job).groups_long)

-- ---- picks
pub picks-requires : goal.picks-requires
picks-requires c =
    let g = given (goal.at.picks-requires c).In_ok-check_job in
    (cut-given _ _ g.groups_long g, c.if-sums-job.false)

pub returns-then-is_taken : goal.returns-then-is_taken
returns-then-is_taken c =
    let a = c.args in
    let g = given (goal.at.returns-then-is_taken c).In_ok-check_job in
    performed _ _ _ _ _ _ _ _ c.in_ok-check_job.ensures (cut-job _ _ g.groups_long _ _ _)
    (made-picks _ _ _ a.call a.schedule.now _ (sym c.is_taken.ensures ∙ c.if-is_taken.true) (c.picks.ensures (take a.job.now.matrix.n a.forces.now)))

-- ---- a preview
pub preview-requires : goal.preview-requires
preview-requires c =
    let g = given (goal.at.preview-requires c).In_ok-check_job in
    (cut-given _ _ g.groups_long g, c.if-sums-job.false)

pub returns-in-Preview : goal.returns-in-Preview
returns-in-Preview c =
    let a = c.args in
    let g = given (goal.at.returns-in-Preview c).In_ok-check_job in
    rw c.in-Preview.is
    (performed _ _ _ _ _ _ _ _ c.in_ok-check_job.ensures (cut-job _ _ g.groups_long _ _ _) (c.preview.ensures a.forces.now (take a.job.now.matrix.n a.forces.now)))

-- ---- the other calls that leave the state
pub report-requires : goal.report-requires
report-requires c =
    let g = given (goal.at.report-requires c).In_ok-check_job in
    (cut-given _ _ g.groups_long g, c.if-sums-job.false)

pub returns : goal.returns
returns c =
    let a = c.args in
    let g = given (goal.at.returns c).In_ok-check_job in
    performed _ _ _ _ _ _ _ _ c.in_ok-check_job.ensures (cut-job _ _ g.groups_long _ _ _)
    (c.report.ensures a.schedule.now (sym c.is_taken.ensures ∙ c.if-is_taken.false) c.in_default.not-Preview)
