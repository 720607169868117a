-- `set_entry`: the checks in turn, the entry's two places, what its two rows add to their forces, then the values.
use mathlib.Core.Path.{◌≡◌, sym, ap, ◌∙◌}
use mathlib.Core.Bool.{false}
use mathlib.Core.List.{List}
use Prim.Native.Nat.{ℕ}
use native.Mathlib.Omega.{arith}
use lib.IntN.{ℤ, pos, ◌-ℤ◌, ◌*ℤ◌}
use lib.ListN.{get_or, length-set}
use mir.Syntax.{w32, w64}
use mir.Val.{SFits}
use mir.Facts.{to_z-of_z}
use borrow.Author.Rules.{rules}
use Rattle.std.proofs.lemmas.Result.{err_from_is_err_and}
use Rattle.base.specs.Integers.{within}
use Rattle.matrix.specs.Limits.{max_value}
use Rattle.upkeep.specs.Upkeep.{KeptForces, Change, kept_in, new_value}
use Rattle.upkeep.proofs.BothSums.{both-same}
use Rattle.upkeep.proofs.Displacing.{current, unchecked, unnamed, unsmall, fine, refused-answers, accepted-answers}
use Rattle.upkeep.proofs.Altering.{alter_named, alter_is-small, altered-forces, alter_values, alter_forces}
use Rattle.upkeep.proofs.Positioned.{known, stepped}
use Rattle.upkeep.proofs.set_entry.Goals as goal

abbrev valued : KeptForces → List ℤ
valued k = k.matrix.values

pub returns-in_err-check_current : goal.returns-in_err-check_current
returns-in_err-check_current c =
    let given : KeptForces = let a = c.args in kept_in a.n a.starts.now a.columns.now a.values.now a.displacements.now a.forces.now in
    let change : Change = new_value c.args.row c.args.column c.args.to in
    let q = refused-answers given change valued _ _ (unchecked given change _ _ c.in_err-check_current.ensures) in
    let p = err_from_is_err_and c.from_residual.result c.from_residual.ensures.1 in
    record { reply = rw (p.1, p.2) q.0; values_left = q.1.0; forces_left = q.1.1 }

pub places-requires : goal.places-requires
places-requires c =
    let given : KeptForces = let a = c.args in kept_in a.n a.starts.now a.columns.now a.values.now a.displacements.now a.forces.now in
    (current given 0 c.in_ok-check_current.ensures).matrix

pub returns-in_default : goal.returns-in_default
returns-in_default c =
    let given : KeptForces = let a = c.args in kept_in a.n a.starts.now a.columns.now a.values.now a.displacements.now a.forces.now in
    let change : Change = new_value c.args.row c.args.column c.args.to in
    let q = refused-answers given change valued _ _ (unnamed given change (current given 0 c.in_ok-check_current.ensures) (alter_named given.matrix _ _ _ c.in_default.ensures)) in
    record { reply = q.0; values_left = q.1.0; forces_left = q.1.1 }

pub returns-then-not-is_within : goal.returns-then-not-is_within
returns-then-not-is_within c =
    let given : KeptForces = let a = c.args in kept_in a.n a.starts.now a.columns.now a.values.now a.displacements.now a.forces.now in
    let change : Change = new_value c.args.row c.args.column c.args.to in
    let tested : c.is_within.result ≡ within max_value c.args.to = simp (to_z-of_z c.ranges.to) at c.is_within.ensures in
    let far : within max_value c.args.to ≡ false = cc in
    let q = refused-answers given change valued _ _
    (unsmall given change (current given 0 c.in_ok-check_current.ensures) (alter_named given.matrix _ _ _ c.in-Some.ensures.stored) (alter_is-small given.matrix _ _ _ far)) in
    record { reply = q.0; values_left = q.1.0; forces_left = q.1.1 }

pub offset_bounds-values-p : goal.offset_bounds-values-p
offset_bounds-values-p c =
    let l = (known c.in_ok-check_current.ensures c.in-Some.ensures c.ranges.to c.is_within.ensures c.if-not-is_within.false).first-low in
    omega arith

pub slice_copy_out-difference : goal.slice_copy_out-difference
slice_copy_out-difference c = (known c.in_ok-check_current.ensures c.in-Some.ensures c.ranges.to c.is_within.ensures c.if-not-is_within.false).first-low

pub bounds-displacements-j : goal.bounds-displacements-j
bounds-displacements-j c = (known c.in_ok-check_current.ensures c.in-Some.ensures c.ranges.to c.is_within.ensures c.if-not-is_within.false).inside.1

pub times-first-requires : goal.times-first-requires
times-first-requires c =
    let k = known c.in_ok-check_current.ensures c.in-Some.ensures c.ranges.to c.is_within.ensures c.if-not-is_within.false in
    let step_fits : SFits w64 c.difference-step.result = search rules in
    let narrow : SFits w32 (get_or c.args.values.now c.in-Some.p (pos 0)) = search rules in
    let step_is = stepped c.ranges.to narrow c.difference-step.ensures in
    simp (to_z-of_z {w = w64} step_fits) (rw step_is k.step_small)

pub bounds-displacements-i : goal.bounds-displacements-i
bounds-displacements-i c = (known c.in_ok-check_current.ensures c.in-Some.ensures c.ranges.to c.is_within.ensures c.if-not-is_within.false).inside.0

pub times-second-requires : goal.times-second-requires
times-second-requires c =
    let k = known c.in_ok-check_current.ensures c.in-Some.ensures c.ranges.to c.is_within.ensures c.if-not-is_within.false in
    let step_fits : SFits w64 c.difference-step.result = search rules in
    let narrow : SFits w32 (get_or c.args.values.now c.in-Some.p (pos 0)) = search rules in
    let step_is = stepped c.ranges.to narrow c.difference-step.ensures in
    simp (to_z-of_z {w = w64} step_fits) (rw step_is k.step_small)

pub add_both-requires : goal.add_both-requires
add_both-requires c =
    let k = known c.in_ok-check_current.ensures c.in-Some.ensures c.ranges.to c.is_within.ensures c.if-not-is_within.false in
    let step_fits : SFits w64 c.difference-step.result = search rules in
    let narrow : SFits w32 (get_or c.args.values.now c.in-Some.p (pos 0)) = search rules in
    let step_is = stepped c.ranges.to narrow c.difference-step.ensures in
    let moved : ℕ → ℤ = λ r. get_or c.args.displacements.now r (pos 0) in
    let step : ℤ = c.args.to -ℤ get_or c.args.values.now c.in-Some.p (pos 0) in
    let first-sum : c.times-first.result ≡ step *ℤ moved c.args.column = let e = simp (to_z-of_z {w = w64} step_fits, to_z-of_z {w = w32} (k.moved-fits c.args.column)) at c.times-first.ensures in
    rw step_is at e in
    let second-sum : c.times-second.result ≡ step *ℤ moved c.args.row = let e = simp (to_z-of_z {w = w64} step_fits, to_z-of_z {w = w32} (k.moved-fits c.args.row)) at c.times-second.ensures in
    rw step_is at e in
    let first_fits : SFits w64 c.times-first.result = search rules in
    let second_fits : SFits w64 c.times-second.result = search rules in
    simp (to_z-of_z {w = w64} first_fits, to_z-of_z {w = w64} second_fits) (rw (first-sum, second-sum) k.both_ok)

pub offset_bounds-values-p-2 : goal.offset_bounds-values-p-2
offset_bounds-values-p-2 c =
    let l = (known c.in_ok-check_current.ensures c.in-Some.ensures c.ranges.to c.is_within.ensures c.if-not-is_within.false).first-low in
    omega arith

pub bounds-values-p : goal.bounds-values-p
bounds-values-p c = (known c.in_ok-check_current.ensures c.in-Some.ensures c.ranges.to c.is_within.ensures c.if-not-is_within.false).first-low

pub offset_bounds-values-q : goal.offset_bounds-values-q
offset_bounds-values-q c =
    let l = (known c.in_ok-check_current.ensures c.in-Some.ensures c.ranges.to c.is_within.ensures c.if-not-is_within.false).second-low in
    omega arith

pub bounds-values-q : goal.bounds-values-q
bounds-values-q c = rw length-set (known c.in_ok-check_current.ensures c.in-Some.ensures c.ranges.to c.is_within.ensures c.if-not-is_within.false).second-low

pub returns : goal.returns
returns c =
    let given : KeptForces = let a = c.args in kept_in a.n a.starts.now a.columns.now a.values.now a.displacements.now a.forces.now in
    let k = known c.in_ok-check_current.ensures c.in-Some.ensures c.ranges.to c.is_within.ensures c.if-not-is_within.false in
    let step_fits : SFits w64 c.difference-step.result = search rules in
    let narrow : SFits w32 (get_or c.args.values.now c.in-Some.p (pos 0)) = search rules in
    let step_is = stepped c.ranges.to narrow c.difference-step.ensures in
    let moved : ℕ → ℤ = λ r. get_or c.args.displacements.now r (pos 0) in
    let step : ℤ = c.args.to -ℤ get_or c.args.values.now c.in-Some.p (pos 0) in
    let first-sum : c.times-first.result ≡ step *ℤ moved c.args.column = let e = simp (to_z-of_z {w = w64} step_fits, to_z-of_z {w = w32} (k.moved-fits c.args.column)) at c.times-first.ensures in
    rw step_is at e in
    let second-sum : c.times-second.result ≡ step *ℤ moved c.args.row = let e = simp (to_z-of_z {w = w64} step_fits, to_z-of_z {w = w32} (k.moved-fits c.args.row)) at c.times-second.ensures in
    rw step_is at e in
    let first_fits : SFits w64 c.times-first.result = search rules in
    let second_fits : SFits w64 c.times-second.result = search rules in
    let change : Change = new_value c.args.row c.args.column c.args.to in
    let added =
    both-same (to_z-of_z {w = w64} first_fits ∙ first-sum ∙ ap (λ (z : ℤ). (c.args.to -ℤ z) *ℤ moved c.args.column) k.old-is)
    (to_z-of_z {w = w64} second_fits ∙ second-sum ∙ ap (λ (z : ℤ). (c.args.to -ℤ z) *ℤ moved c.args.row) k.old-is) c.add_both.ensures in
    let q = accepted-answers given change valued
    (fine given change k.current (alter_named given.matrix _ _ _ k.placed.stored) (alter_is-small given.matrix _ _ _ k.small))
    (simp (to_z-of_z {w = w32} c.ranges.to) (alter_values given.matrix _ _ k.current c.args.row c.args.column c.args.to k.placed.stored k.placed.first k.placed.second))
    (altered-forces given.matrix _ _ k.current c.args.row c.args.column c.args.to k.placed.stored added
    ∙ sym (alter_forces given.matrix _ _ k.current c.args.row c.args.column c.args.to k.placed.stored)) in
    record { reply = q.0; values_left = q.1.0; forces_left = q.1.1 }
