-- `picks::preview`: a copy of the sums, then the picks.
use Prim.Native.Nat.{◌≤◌}
use mathlib.Core.Path.{sym}
use native.Mathlib.Omega.{arith}
use lib.ListN.{length}
use lib.Seq.{length-take-le}
use Rattle.layout.proofs.GivenRows.{few-rows}
use Rattle.calls.proofs.Performing.{made-preview}
use Rattle.calls.proofs.picks.preview.Goals as goal

pub slice_bounds-copied-end : goal.slice_bounds-copied-end
slice_bounds-copied-end c = omega (arith, few-rows c.requires.0, c.requires.1)

pub slice_bounds-copy-end : goal.slice_bounds-copy-end
slice_bounds-copy-end c =
    let few : length c.args.sums.now ≤ 4096 = omega (arith, few-rows c.requires.0, c.requires.1) in
    sym (length-take-le (length c.args.sums.now) _ few)

pub copy_from_slice-requires : goal.copy_from_slice-requires
copy_from_slice-requires c =
    let few : length c.args.sums.now ≤ 4096 = omega (arith, few-rows c.requires.0, c.requires.1) in
    length-take-le (length c.args.sums.now) _ few

pub picks-requires : goal.picks-requires
picks-requires c = (c.requires.0, rw c.copy_from_slice.ensures.after c.requires.1)

pub returns : goal.returns
returns c old zs =
    made-preview _ _ old c.args.schedule.now (rw c.copy_from_slice.ensures.after at (c.picks.ensures zs))
