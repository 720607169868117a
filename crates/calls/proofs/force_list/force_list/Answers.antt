-- `force_list`: whether the run is over, then the room.
use mathlib.Core.Bool.{not}
use mathlib.Core.Path.{refl, ap}
use Rattle.base.proofs.Booleans.{fails, holds}
use Rattle.calls.proofs.ForceList.{listed-early, listed-short, listed}
use Rattle.calls.proofs.force_list.force_list.Goals as goal

pub returns-then-not-is_over : goal.returns-then-not-is_over
returns-then-not-is_over c j rows is = listed-early j rows _ _ (fails refl (ap not c.if-not-is_over.true))

pub returns-then-forces-rows : goal.returns-then-forces-rows
returns-then-forces-rows c j rows is = listed-short j rows _ _ (holds refl (ap not c.if-not-is_over.false)) c.if-forces-rows.true

pub returns : goal.returns
returns c j rows is =
    listed j rows _ _ (holds refl (ap not c.if-not-is_over.false)) c.args.order.now is c.requires.1 c.if-forces-rows.false c.scatter.ensures
