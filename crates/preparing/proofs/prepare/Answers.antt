-- `prepare`: the checks, then the job with its records cut from the list.
use mathlib.Core.Path.{◌≡◌, sym}
use Prim.Native.Nat.{◌*◌}
use lib.Seq.{length-take-le}
use Rattle.std.proofs.Common.{Err, arith}
use borrow.Author.Rules.{rules}
use Rattle.plan.specs.Groups.{width}
use Rattle.layout.specs.Code.UpdateTable.{Given}
use Rattle.calls.proofs.Prepared.{passed-given, cut-job, cut-given}
use Rattle.preparing.proofs.Prepares.{lists-refused, lists-prepared}
use Rattle.preparing.proofs.prepare.Goals as goal
use Rattle.preparing.proofs.prepare.Goals.{In_ok-check_job}

-- the lists hold a job
given : (c : In_ok-check_job) → let j = c.args.job.now in Given j.matrix.n j.matrix.starts.now j.matrix.columns.now j.matrix.values.now j.displacements.now j.plan.order.now j.plan.groups.now j.plan.count
given c = passed-given 0 c.in_ok-check_job.ensures

pub returns-in_err-check_job : goal.returns-in_err-check_job
returns-in_err-check_job c =
    let up : c.from_residual.result ≡ Err c.in_err-check_job.field-0.0 = grind arith in
    rw up (lists-refused _ _ _ _ _ _ _ _ c.in_err-check_job.ensures)

pub overflow_mul-records : goal.overflow_mul-records
overflow_mul-records c = let long = (given (goal.at.overflow_mul-records c).In_ok-check_job).groups_long in search rules

pub slice_bounds-records-end : goal.slice_bounds-records-end
slice_bounds-records-end c =
    let p = c.args.job.now.plan in
    sym (length-take-le (width * p.count) p.groups.now (given (goal.at.slice_bounds-records-end c).In_ok-check_job).groups_long)

pub store_job-requires : goal.store_job-requires
store_job-requires c = let g = given (goal.at.store_job-requires c).In_ok-check_job in cut-given _ _ g.groups_long g

pub returns : goal.returns
returns c =
    let g = given (goal.at.returns c).In_ok-check_job in
    lists-prepared _ _ _ _ _ _ c.in_ok-check_job.ensures (cut-job _ _ g.groups_long _ _ _) c.store_job.ensures
