-- `updates::amount_of` meets its contract.
use Prim.Native.Nat.{◌<◌}
use native.Mathlib.Omega.{arith}
use borrow.Author.Rules.{rules}
use Rattle.steps.proofs.TableUpdates.{by_low}
use Rattle.steps.proofs.updates.amount_of.Goals as goal

pub entry_place-place-requires : goal.entry_place-place-requires
entry_place-place-requires c = let r = c.requires.1 in (omega (arith, r.row_low, r.few), omega (arith, r.inside, r.room))

pub offset_bounds-displaced-row : goal.offset_bounds-displaced-row
offset_bounds-displaced-row c =
    let other : c.by_turns-row.result < 4096 = let r = c.requires.1 in
    let h : c.by_turns-row.result < c.requires.0 = rw c.by_turns-row.ensures (by_low c.args.k c.args.p _ r.row_low (r.at_low _)) in
    omega (arith, r.few) in
    let h = other in search rules

pub bounds-displaced-row : goal.bounds-displaced-row
bounds-displaced-row c =
    let other : c.by_turns-row.result < 4096 = let r = c.requires.1 in
    let h : c.by_turns-row.result < c.requires.0 = rw c.by_turns-row.ensures (by_low c.args.k c.args.p _ r.row_low (r.at_low _)) in
    omega (arith, r.few) in
    let h = other in search rules
