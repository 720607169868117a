use Rattle.words.specs.LittleEndian.{signed}
use Rattle.lent.specs.Code.Nets.{net_of}
use Rattle.office.proofs.Products.{decoded_lists}
use Rattle.office.proofs.product.product_with.Goals as goal

pub returns : goal.returns
returns g c = decoded_lists (net_of c.args.bytes.now.net) (signed 4 c.args.movements.now) _ c.decode-m.ensures c.decode.ensures c.product_of.ensures
