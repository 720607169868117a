-- `sizes_of` meets its contract.
use Prim.Native.Nat.{◌≤◌}
use native.Mathlib.Omega.{arith}
use lib.ListN.{length}
use Rattle.prepared.proofs.Places as at
use Rattle.picking.proofs.Heads.{head_of}
use Rattle.picking.proofs.head.sizes_of.Goals as goal

pub number_at-rows-requires : goal.number_at-rows-requires
number_at-rows-requires c =
    let long : 144 ≤ length c.args.list.now = at.long c.args.list.now c.requires in
    omega (arith, long)

pub number_at-crew-requires : goal.number_at-crew-requires
number_at-crew-requires c =
    let long : 144 ≤ length c.args.list.now = at.long c.args.list.now c.requires in
    omega (arith, long)

pub number_at-count-requires : goal.number_at-count-requires
number_at-count-requires c =
    let long : 144 ≤ length c.args.list.now = at.long c.args.list.now c.requires in
    omega (arith, long)

pub returns : goal.returns
returns c =
    head_of c.args.list.now c.requires c.number_at-rows.ensures.0 c.number_at-rows.ensures.1 c.number_at-crew.ensures.0 c.number_at-count.ensures.0
