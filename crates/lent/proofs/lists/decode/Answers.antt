-- `decode` meets its contract.
use Rattle.lent.proofs.Loads.{loaded_is}
use Rattle.lent.proofs.lists.decode.Goals as goal

pub returns : goal.returns
returns g c = let a = c.args in loaded_is g.W.Word.of_bytes g.W.Word.WIDTH a.bytes.now a.array.now c.load-count.ensures.0 c.load-count.ensures.1
