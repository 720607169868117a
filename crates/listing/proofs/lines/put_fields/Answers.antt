use mathlib.Core.Path.{refl}
use Prim.Native.Nat.{◌≤◌, ◌+◌}
use mathlib.Core.List.{◌∷◌}
use native.Mathlib.Omega.{arith}
use lib.ListN.{length, get_or}
use Rattle.market.specs.Bytes.{blank}
use Rattle.market.specs.Text.{natural}
use Rattle.writer.proofs.puts.Putting.{put_then, putting_room, putting_more, putting_end}
use Rattle.listing.proofs.Printed.{fields-next, fields-last}
use Rattle.listing.proofs.lines.put_fields.Goals as goal

pub put_number-p-requires : goal.put_number-p-requires
put_number-p-requires c =
    let l = c.loop-v in
    let room : l.p + length (blank ∷ natural (get_or c.args.numbers.now l.v-index 0)) ≤ length l.output = putting_room l.invariant (fields-next c.args.numbers.now l.v-index (omega arith)) in
    omega (arith, c.put_byte-gap.ensures.next, c.put_byte-gap.ensures.long)

pub loop-v-preserved : goal.loop-v-preserved
loop-v-preserved c =
    let l = c.loop-v in
    let room : l.p + length (blank ∷ natural (get_or c.args.numbers.now l.v-index 0)) ≤ length l.output = putting_room l.invariant (fields-next c.args.numbers.now l.v-index (omega arith)) in
    putting_more l.invariant (fields-next c.args.numbers.now l.v-index (omega arith)) (put_then (omega arith) c.put_byte-gap.ensures c.put_number-p.ensures)

pub returns : goal.returns
returns c = putting_end (putting_more c.loop-v.invariant (fields-last c.args.numbers.now c.loop-v.v-index (omega arith)) c.put_byte.ensures) refl
