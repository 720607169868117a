use Rattle.preparing.proofs.Passes.{gated-none}
use Rattle.preparing.proofs.gates.gates_down.Goals as goal

pub loop-i-init : goal.loop-i-init
loop-i-init c = gated-none c.args.groups.now c.args.reds.now
