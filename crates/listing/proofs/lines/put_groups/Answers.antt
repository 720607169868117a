use mathlib.Core.Path.{refl}
use Prim.Native.Nat.{◌≤◌, ◌+◌, ◌*◌}
use native.Mathlib.Omega.{arith}
use lib.ListN.{length, length-append}
use Rattle.market.specs.Text.{natural}
use Rattle.writer.proofs.puts.Putting.{put_then, putting_start, putting_room, putting_more, putting_end}
use Rattle.plan.specs.Groups.{fields_of, records, width}
use Rattle.plan.specs.Code.Checks.{record_at}
use Rattle.plan.proofs.FlatRecords.{length-records}
use Rattle.listing.specs.Listing.{group_lines}
use Rattle.listing.proofs.Printed.{fields_line, record_part, groups-next, groups_end, groups-few}
use Rattle.listing.proofs.lines.put_groups.Goals as goal

pub loop-i-init : goal.loop-i-init
loop-i-init c =
    let gs = records c.args.plan.now.count c.args.plan.now.groups.now in
    putting_start (group_lines 0 gs) c.args.at c.args.output.now (omega (arith, c.requires.2, groups-few 0 gs, length-records c.args.plan.now.count c.args.plan.now.groups.now))

pub put_number-index-requires : goal.put_number-index-requires
put_number-index-requires c =
    let ns = c.args.plan.now.groups.now in
    let l = c.loop-i in
    let room : l.p + (length (natural l.i) + length (fields_line (fields_of (record_at ns l.i)))) ≤ length l.output = rw length-append at (putting_room l.invariant (groups-next ns c.args.plan.now.count l.i (omega arith))) in
    omega arith

pub put_fields-p-requires : goal.put_fields-p-requires
put_fields-p-requires c =
    let ns = c.args.plan.now.groups.now in
    let l = c.loop-i in
    let room : l.p + (length (natural l.i) + length (fields_line (fields_of (record_at ns l.i)))) ≤ length l.output = rw length-append at (putting_room l.invariant (groups-next ns c.args.plan.now.count l.i (omega arith))) in
    rw (record_part ns l.i (width * l.i) refl (omega (arith, c.requires.1))) (omega (arith, c.put_number-index.ensures.next, c.put_number-index.ensures.long))

pub loop-i-preserved : goal.loop-i-preserved
loop-i-preserved c =
    let ns = c.args.plan.now.groups.now in
    let l = c.loop-i in
    let room : l.p + (length (natural l.i) + length (fields_line (fields_of (record_at ns l.i)))) ≤ length l.output = rw length-append at (putting_room l.invariant (groups-next ns c.args.plan.now.count l.i (omega arith))) in
    putting_more l.invariant (groups-next ns c.args.plan.now.count l.i (omega arith))
    (put_then (omega arith) c.put_number-index.ensures (rw (record_part ns l.i (width * l.i) refl (omega (arith, c.requires.1))) at c.put_fields-p.ensures))

pub returns : goal.returns
returns c = putting_end c.loop-i.invariant (groups_end c.args.plan.now.groups.now c.args.plan.now.count c.loop-i.i (omega arith))
