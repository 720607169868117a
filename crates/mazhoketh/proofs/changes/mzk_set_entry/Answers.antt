-- `mzk_set_entry` meets its contract: the number is handed on as it is.
use mir.Facts.{to_z-of_z}
use Rattle.site.proofs.Changes.{entry_said}
use Rattle.mazhoketh.proofs.changes.mzk_set_entry.Goals as goal

pub returns : goal.returns
returns c = entry_said (to_z-of_z c.ranges.value) c.set_entry_in.ensures
