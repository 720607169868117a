use mathlib.Core.Path.{◌≡◌}
use lib.IntN.{pos}
use lib.ListN.{get_or, take}
use borrow.Author.Rules.{rules}
use mir.Syntax.{w32, w64}
use mir.Val.{SFits, to_z, of_z}
use mir.Facts.{to_z-of_z}
use Rattle.upkeep.specs.Code.Sums.{Added}
use Rattle.upkeep.proofs.RowAdded.{none_passed, Turn, turn_as, one-passed}
use Rattle.upkeep.proofs.adding.add_row.Goals as goal

pub loop-k-init : goal.loop-k-init
loop-k-init c = rw (to_z-of_z c.ranges.step) (none_passed _ _ _ _ c.requires)

pub overflow_mul-forces : goal.overflow_mul-forces
overflow_mul-forces c =
    let t : let a = c.args in Turn a.columns.now a.values.now a.step a.forces.now c.requires c.loop-k.forces c.loop-k.k = turn_as _ _ _ _ c.requires (to_z-of_z c.ranges.step) _ _ c.loop-k.invariant c.loop-k-test.true in
    let f = c.ranges.step in
    search rules

pub slice_copy_out-forces : goal.slice_copy_out-forces
slice_copy_out-forces c = (turn_as _ _ _ _ c.requires (to_z-of_z c.ranges.step) _ _ c.loop-k.invariant c.loop-k-test.true).column

pub overflow_add-forces : goal.overflow_add-forces
overflow_add-forces c =
    let t : let a = c.args in Turn a.columns.now a.values.now a.step a.forces.now c.requires c.loop-k.forces c.loop-k.k = turn_as _ _ _ _ c.requires (to_z-of_z c.ranges.step) _ _ c.loop-k.invariant c.loop-k-test.true in
    let f = c.ranges.step in
    search rules

pub bounds-forces-column : goal.bounds-forces-column
bounds-forces-column c = (turn_as _ _ _ _ c.requires (to_z-of_z c.ranges.step) _ _ c.loop-k.invariant c.loop-k-test.true).column

pub loop-k-preserved : goal.loop-k-preserved
loop-k-preserved c =
    let step_is : to_z w64 (of_z w64 c.args.step) ≡ c.args.step = to_z-of_z {w = w64} c.ranges.step in
    let passed : let a = c.args in Added (take c.loop-k.k a.columns.now) (take c.loop-k.k a.values.now) a.step a.forces.now c.loop-k.forces = rw step_is at c.loop-k.invariant in
    let t = turn_as _ _ _ _ c.requires step_is _ _ c.loop-k.invariant c.loop-k-test.true in
    let narrow : SFits w32 (get_or c.args.values.now c.loop-k.k (pos 0)) = search rules in
    simp (step_is, to_z-of_z {w = w32} narrow, to_z-of_z t.value, to_z-of_z t.more, to_z-of_z t.was, to_z-of_z t.sum)
    (one-passed _ _ _ _ c.requires c.loop-k.forces c.loop-k.k passed c.loop-k-test.true)
