-- `prepare_in` meets its contract: the lists are decoded as far as a job can reach.
use Rattle.words.specs.LittleEndian.{unsigned, signed}
use Rattle.lent.specs.Code.Nets.{net_of}
use Rattle.rack.proofs.Prepares.{prepared-whole}
use Rattle.rack.proofs.prepare.prepare_in.Goals as goal

pub returns : goal.returns
returns c =
    let a = c.args in
    let j = a.job.now in
    let plan = c.decode-3.ensures in
    prepared-whole (net_of j.net) (signed 4 j.movements.now) (unsigned 4 j.plan.order.now) (unsigned 4 j.plan.groups.now) j.plan.count
    c.decode.ensures c.decode-2.ensures plan.order plan.groups a.out.now (rw plan.count at c.prepare.ensures) c.word_of.ensures
