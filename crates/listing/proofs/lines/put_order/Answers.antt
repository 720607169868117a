-- `put_order` meets its contract.
use native.Mathlib.Omega.{arith}
use Rattle.writer.proofs.puts.Putting.{put_then}
use Rattle.listing.specs.Listing.{order_line, title_line}
use Rattle.listing.proofs.Printed.{fields-few}
use Rattle.listing.proofs.lines.put_order.Goals as goal

pub put_fields-title-requires : goal.put_fields-title-requires
put_fields-title-requires c =
    omega (arith, c.requires, c.put_bytes-word.ensures.next, c.put_bytes-word.ensures.long, fields-few c.args.order.now)

pub put_bytes-requires : goal.put_bytes-requires
put_bytes-requires c =
    omega (arith, c.requires, c.put_bytes-word.ensures.next, c.put_bytes-word.ensures.long, c.put_fields-title.ensures.next, c.put_fields-title.ensures.long, fields-few c.args.order.now)

pub returns : goal.returns
unfolding order_line title_line
returns c =
    put_then (omega arith) (put_then (omega arith) c.put_bytes-word.ensures c.put_fields-title.ensures) c.put_bytes.ensures
