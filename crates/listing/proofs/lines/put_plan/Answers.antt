-- `put_plan` meets its contract.
use mathlib.Core.Path.{◌≡◌, sym}
use native.Mathlib.Omega.{arith}
use lib.ListN.{length, take}
use lib.Seq.{length-take-le}
use Rattle.writer.proofs.puts.Putting.{put_then}
use Rattle.plan.specs.Groups.{plan_of}
use Rattle.listing.specs.Listing.{plan_listing}
use Rattle.listing.proofs.Printed.{order-few}
use Rattle.listing.proofs.lines.put_plan.Goals as goal

pub slice_bounds-put_order-end : goal.slice_bounds-put_order-end
slice_bounds-put_order-end c =
    let order_long : length (take c.args.n c.args.plan.now.order.now) ≡ c.args.n = length-take-le c.args.n c.args.plan.now.order.now c.requires.0 in
    sym order_long

pub put_order-rows-requires : goal.put_order-rows-requires
put_order-rows-requires c =
    let order_long : length (take c.args.n c.args.plan.now.order.now) ≡ c.args.n = length-take-le c.args.n c.args.plan.now.order.now c.requires.0 in
    rw order_long (omega (arith, c.requires.3))

pub put_groups-requires : goal.put_groups-requires
put_groups-requires c =
    let order_long : length (take c.args.n c.args.plan.now.order.now) ≡ c.args.n = length-take-le c.args.n c.args.plan.now.order.now c.requires.0 in
    (c.requires.1, c.requires.2, omega (arith, c.requires.3, c.put_order-rows.ensures.next, c.put_order-rows.ensures.long, order_long, order-few (take c.args.n c.args.plan.now.order.now)))

pub returns : goal.returns
unfolding plan_listing plan_of
returns c =
    put_then (omega arith) c.put_order-rows.ensures c.put_groups.ensures
