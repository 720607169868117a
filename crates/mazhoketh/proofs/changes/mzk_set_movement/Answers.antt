-- `mzk_set_movement` meets its contract: the number is handed on as it is.
use mir.Facts.{to_z-of_z}
use Rattle.site.proofs.Changes.{movement_said}
use Rattle.mazhoketh.proofs.changes.mzk_set_movement.Goals as goal

pub returns : goal.returns
returns c = movement_said (to_z-of_z c.ranges.value) c.set_movement_in.ensures
