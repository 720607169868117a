-- `order::each_once`: an order of n numbers has each row once if every row is marked.
use mathlib.Core.Path.{refl}
use native.Mathlib.Omega.{arith}
use Rattle.matrix.specs.Limits.{max_rows}
use Rattle.shape.proofs.Seen.{seen_none, seen_once}
use Rattle.shape.proofs.order.each_once.Goals as goal

pub mark_rows-requires : goal.mark_rows-requires
mark_rows-requires c = (omega arith, seen_none c.args.n max_rows refl (omega arith))

pub returns : goal.returns
returns c = seen_once c.args.n c.args.order.now c.mark_rows.new.marks (omega arith) (omega arith) c.mark_rows.ensures c.all_marked.result c.all_marked.ensures
