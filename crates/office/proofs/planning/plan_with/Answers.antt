use Rattle.lent.specs.Code.Nets.{net_of}
use Rattle.office.proofs.Plans.{decoded_matrix}
use Rattle.office.proofs.planning.plan_with.Goals as goal

pub returns : goal.returns
returns g c = let w = c.args.wish in decoded_matrix (net_of c.args.bytes.now.net) w.workers w.p w.k c.decode-m.ensures c.plan_of.ensures
