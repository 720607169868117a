-- The plan of lent bytes, as far as arrays hold it.
use Rattle.std.specs.Prelude.{◌≡◌, take}
use Rattle.matrix.specs.Limits.{max_rows}
use Rattle.plan.specs.Code.Room.{max_fields}
use Rattle.plan.specs.declared.lists.Plan.{Plan}
use Rattle.words.specs.LittleEndian.{unsigned}
use Rattle.lent.specs.declared.plans.PlanBytes.{PlanBytes}

-- what a plan can need of the lists
pub record IsDecoded (bytes : PlanBytes) (plan : Plan) : Type 0 where
  pub order : plan.order.now ≡ take max_rows (unsigned 4 bytes.order.now)
  pub groups : plan.groups.now ≡ take max_fields (unsigned 4 bytes.groups.now)
  pub count : plan.count ≡ bytes.count
