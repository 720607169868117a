-- The records and the sizes that the code holds of an accepted job.
use Rattle.std.specs.Prelude.{◌/◌, length}
use Rattle.plan.specs.Groups.{width}
use Rattle.run.specs.Job.{Job}
use Rattle.layout.specs.Code.UpdateTable.{Planned}
use Rattle.layout.specs.declared.updates.SizedPlan.{SizedPlan}

abbrev pub PlannedBy : Job → SizedPlan → Type 0
PlannedBy j p = Planned j p.groups.now (length p.groups.now / width) p.sizes.now
