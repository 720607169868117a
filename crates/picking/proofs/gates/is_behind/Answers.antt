use Rattle.picking.proofs.Turns.{behind-start, behind-turn}
use Rattle.picking.proofs.gates.is_behind.Goals as goal

pub loop-v-init : goal.loop-v-init
loop-v-init c = behind-start _ _

pub loop-v-preserved : goal.loop-v-preserved
loop-v-preserved c = behind-turn _ _ _ _ _ c.loop-v.invariant c.word_at.ensures
