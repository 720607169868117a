-- `PlanBytes::decode` meets its contract: the arrays reach as far as a plan can.
use mathlib.Core.Path.{refl}
use Rattle.lent.proofs.plans.PlanBytes.decode.Goals as goal

pub returns : goal.returns
returns c = record { order = rw c.told-order at c.decode.ensures; groups = rw c.told-groups at c.decode-2.ensures; count = refl }
