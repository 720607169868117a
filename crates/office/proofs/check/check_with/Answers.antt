use mathlib.Core.Path.{◌∙◌}
use Rattle.words.specs.LittleEndian.{unsigned}
use Rattle.lent.specs.Code.Nets.{net_of}
use Rattle.office.proofs.PlanChecks.{decoded_lists}
use Rattle.office.proofs.check.check_with.Goals as goal

pub returns : goal.returns
returns g c =
    let a = c.args in
    let d = c.decode.ensures in
    c.check.ensures ∙ rw d.count (decoded_lists (net_of a.bytes.now.net) (unsigned 4 a.plan.now.order.now) (unsigned 4 a.plan.now.groups.now) a.plan.now.count a.k c.decode-m.ensures d.order d.groups)
