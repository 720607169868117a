-- `Near::touch`: what is done stays.
use Rattle.apart.proofs.Touching.{widened-kept}
use Rattle.apart.proofs.reach.NearReach.touch.Goals as goal

pub returns : goal.returns
returns c = widened-kept c.requires.0 c.touch_row.ensures
