use mathlib.Core.List.{[], ◌∷◌}
use native.Mathlib.Omega.{arith}
use Rattle.writer.proofs.puts.Putting.{put_then}
use Rattle.listing.specs.Listing.{refused_line}
use Rattle.listing.proofs.Printed.{fields-few}
use Rattle.listing.proofs.lines.put_refusal.Goals as goal

pub put_fields-requires : goal.put_fields-requires
put_fields-requires c =
    omega (arith, c.requires, c.put_bytes-word.ensures.next, c.put_bytes-word.ensures.long, fields-few (c.number.result ∷ c.args.refusal.place ∷ []))

pub returns : goal.returns
unfolding refused_line
returns c = put_then (omega arith) c.put_bytes-word.ensures (rw c.number.ensures at c.put_fields.ensures)
