-- The job that the code's lists hold: all groups in its list are the plan's.
use Rattle.std.specs.Prelude.{◌/◌, length}
use Rattle.matrix.specs.Held.{held}
use Rattle.plan.specs.Groups.{width}
use Rattle.run.specs.Job.{Job, job_of}
use Rattle.layout.specs.Code.UpdateTable.{Given}
use Rattle.calls.specs.declared.Job as code

abbrev pub job_in : code.Job → Job
job_in j = job_of (held j.matrix) j.displacements.now j.plan.order.now j.plan.groups.now (length j.plan.groups.now / width)

-- .. is accepted
abbrev pub GivenIn : code.Job → Type 0
GivenIn j = Given j.matrix.n j.matrix.starts.now j.matrix.columns.now j.matrix.values.now j.displacements.now j.plan.order.now j.plan.groups.now (length j.plan.groups.now / width)
