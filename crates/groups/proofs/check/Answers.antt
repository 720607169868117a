-- Past the limit every count is refused alike.
use mathlib.Core.Path.{◌∙◌}
use Rattle.matrix.specs.Held.{held}
use Rattle.groups.proofs.CheckReply.{reply_flattened}
use Rattle.groups.proofs.check.Goals as goal

pub returns : goal.returns
returns c = c.check.ensures ∙ reply_flattened (held c.args.m.now) c.args.order.now c.args.k c.args.groups.now c.flatten-numbers.result c.flatten-numbers.ensures
