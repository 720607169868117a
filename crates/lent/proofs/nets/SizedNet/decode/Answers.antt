-- `SizedNet::decode` meets its contract: the arrays reach as far as a matrix can.
use Rattle.matrix.proofs.Cut.{cut-reached}
use Rattle.words.specs.LittleEndian.{number, signed_number}
use Rattle.words.proofs.Blocks.{length_decoded}
use Rattle.lent.specs.Code.Nets.{net_of}
use Rattle.lent.proofs.nets.SizedNet.decode.Goals as goal

pub returns : goal.returns
returns g c =
    let s = c.args.self.now in
    let columns = rw (← length_decoded number 4 s.net.columns.now) at s.fit.1 in
    let values = rw (← length_decoded (signed_number 4) 4 s.net.values.now) at s.fit.2 in
    cut-reached (net_of s.net) g.row.CELLS columns values (rw c.told-starts at c.decode.ensures) (rw c.told-columns at c.decode-2.ensures) (rw c.told-values at c.decode-3.ensures)
