-- `set_displacement`: the checks in turn, then what the row adds to each force, then the displacement.
use mathlib.Core.Path.{◌≡◌, sym, ap, ◌∙◌}
use mathlib.Core.Bool.{true, false}
use mathlib.Core.List.{List}
use Prim.Native.Nat.{◌≤◌}
use native.Mathlib.Omega.{arith}
use lib.IntN.{ℤ, pos, nat_abs}
use lib.ListN.{get_or}
use mir.Syntax.{w32, w64}
use mir.Val.{SFits}
use mir.Facts.{to_z-of_z}
use borrow.Author.Rules.{rules}
use borrow.Author.Tests.{leb-true}
use Rattle.std.proofs.lemmas.Result.{err_from_is_err_and}
use Rattle.base.specs.Integers.{within}
use Rattle.matrix.specs.Limits.{max_displacement}
use Rattle.matrix.specs.Matrix.{columns_of, values_of}
use Rattle.matrix.proofs.Checks.{matrix_tidy}
use Rattle.matrix.proofs.Matrix.{displacements-many}
use Rattle.matrix.proofs.Rows.{columns-part, values-part, columns-in, values_in}
use Rattle.upkeep.specs.Upkeep.{KeptForces, Change, kept_in, new_displacement}
use Rattle.upkeep.specs.KeptCurrent.{Current}
use Rattle.upkeep.proofs.Displacing.{current, unchecked, unnamed, unsmall, fine, refused-answers, accepted-answers, addable, displaced_forces, move-named, move_unnamed, move-is-small, move-changed}
use Rattle.upkeep.proofs.Positioned.{stepped}
use Rattle.upkeep.proofs.set_displacement.Goals as goal

abbrev moved : KeptForces → List ℤ
moved k = k.displacements

pub returns-in_err-check_current : goal.returns-in_err-check_current
returns-in_err-check_current c =
    let given : KeptForces = let m = c.args.m.now in kept_in m.n m.starts.now m.columns.now m.values.now c.args.displacements.now c.args.forces.now in
    let q = refused-answers given (new_displacement c.args.row c.args.to) moved _ _ (unchecked given (new_displacement c.args.row c.args.to) _ _ c.in_err-check_current.ensures) in
    let p = err_from_is_err_and c.from_residual.result c.from_residual.ensures.1 in
    record { reply = rw (p.1, p.2) q.0; displacements_left = q.1.0; forces_left = q.1.1 }

pub returns-then-m-i : goal.returns-then-m-i
returns-then-m-i c =
    let given : KeptForces = let m = c.args.m.now in kept_in m.n m.starts.now m.columns.now m.values.now c.args.displacements.now c.args.forces.now in
    let change : Change = new_displacement c.args.row c.args.to in
    let is-current : Current given = current given 0 c.in_ok-check_current.ensures in
    let q = refused-answers given change moved _ _ (unnamed given change is-current (move_unnamed given.matrix _ _ c.if-m-i.true)) in
    record { reply = q.0; displacements_left = q.1.0; forces_left = q.1.1 }

pub returns-then-not-is_within : goal.returns-then-not-is_within
returns-then-not-is_within c =
    let given : KeptForces = let m = c.args.m.now in kept_in m.n m.starts.now m.columns.now m.values.now c.args.displacements.now c.args.forces.now in
    let change : Change = new_displacement c.args.row c.args.to in
    let is-current : Current given = current given 0 c.in_ok-check_current.ensures in
    let tested : c.is_within.result ≡ within max_displacement c.args.to = simp (to_z-of_z c.ranges.to) at c.is_within.ensures in
    let far : within max_displacement c.args.to ≡ false = cc in
    let q = refused-answers given change moved _ _ (unsmall given change is-current (move-named given.matrix _ _ c.if-m-i.false) (move-is-small given.matrix _ _ far)) in
    record { reply = q.0; displacements_left = q.1.0; forces_left = q.1.1 }

pub slice_copy_out-difference : goal.slice_copy_out-difference
slice_copy_out-difference c =
    let given : KeptForces = let m = c.args.m.now in kept_in m.n m.starts.now m.columns.now m.values.now c.args.displacements.now c.args.forces.now in
    omega (arith, displacements-many given.matrix.n given.displacements (current given 0 c.in_ok-check_current.ensures).moved)

pub columns_of-requires : goal.columns_of-requires
columns_of-requires c =
    let given : KeptForces = let m = c.args.m.now in kept_in m.n m.starts.now m.columns.now m.values.now c.args.displacements.now c.args.forces.now in
    columns-in given.matrix (matrix_tidy given.matrix (current given 0 c.in_ok-check_current.ensures).matrix).shape c.args.row c.if-m-i.false

pub values_of-requires : goal.values_of-requires
values_of-requires c =
    let given : KeptForces = let m = c.args.m.now in kept_in m.n m.starts.now m.columns.now m.values.now c.args.displacements.now c.args.forces.now in
    values_in given.matrix (matrix_tidy given.matrix (current given 0 c.in_ok-check_current.ensures).matrix).shape c.args.row c.if-m-i.false

pub add_row-requires : goal.add_row-requires
unfolding within
add_row-requires c =
    let given : KeptForces = let m = c.args.m.now in kept_in m.n m.starts.now m.columns.now m.values.now c.args.displacements.now c.args.forces.now in
    let columns : c.columns_of.result.now ≡ columns_of given.matrix c.args.row = c.columns_of.ensures ∙ sym (columns-part given.matrix c.args.row c.if-m-i.false) in
    let values : c.values_of.result.now ≡ values_of given.matrix c.args.row = c.values_of.ensures ∙ sym (values-part given.matrix c.args.row c.if-m-i.false) in
    let tested : c.is_within.result ≡ within max_displacement c.args.to = simp (to_z-of_z c.ranges.to) at c.is_within.ensures in
    let small : within max_displacement c.args.to ≡ true = cc in
    let near : nat_abs c.args.to ≤ max_displacement = leb-true (nat_abs c.args.to) max_displacement small in
    let step_fits : SFits w64 c.difference-step.result = search rules in
    let old : SFits w32 (get_or c.args.displacements.now c.args.row (pos 0)) = search rules in
    let step_is = stepped c.ranges.to old c.difference-step.ensures in
    simp (to_z-of_z step_fits)
    (rw step_is (addable given.matrix _ _ (current given 0 c.in_ok-check_current.ensures) c.args.row c.if-m-i.false c.args.to columns values near))

pub bounds-displacements-i : goal.bounds-displacements-i
bounds-displacements-i c =
    let given : KeptForces = let m = c.args.m.now in kept_in m.n m.starts.now m.columns.now m.values.now c.args.displacements.now c.args.forces.now in
    omega (arith, displacements-many given.matrix.n given.displacements (current given 0 c.in_ok-check_current.ensures).moved)

pub returns : goal.returns
returns c =
    let given : KeptForces = let m = c.args.m.now in kept_in m.n m.starts.now m.columns.now m.values.now c.args.displacements.now c.args.forces.now in
    let change : Change = new_displacement c.args.row c.args.to in
    let is-current : Current given = current given 0 c.in_ok-check_current.ensures in
    let columns : c.columns_of.result.now ≡ columns_of given.matrix c.args.row = c.columns_of.ensures ∙ sym (columns-part given.matrix c.args.row c.if-m-i.false) in
    let values : c.values_of.result.now ≡ values_of given.matrix c.args.row = c.values_of.ensures ∙ sym (values-part given.matrix c.args.row c.if-m-i.false) in
    let tested : c.is_within.result ≡ within max_displacement c.args.to = simp (to_z-of_z c.ranges.to) at c.is_within.ensures in
    let small : within max_displacement c.args.to ≡ true = cc in
    let step_fits : SFits w64 c.difference-step.result = search rules in
    let old : SFits w32 (get_or c.args.displacements.now c.args.row (pos 0)) = search rules in
    let step_is = stepped c.ranges.to old c.difference-step.ensures in
    let added = simp (to_z-of_z step_fits) at c.add_row.ensures in
    let q = accepted-answers given change moved
    (fine given change is-current (move-named given.matrix _ _ c.if-m-i.false) (move-is-small given.matrix _ _ small))
    (simp (to_z-of_z c.ranges.to) (ap moved (sym (move-changed given.matrix c.args.row c.args.to _ _))))
    (displaced_forces given.matrix _ _ is-current c.args.row c.if-m-i.false c.args.to columns values (rw step_is at added)
    ∙ ap (λ (k : KeptForces). k.forces) (sym (move-changed given.matrix c.args.row c.args.to _ _))) in
    record { reply = q.0; displacements_left = q.1.0; forces_left = q.1.1 }
