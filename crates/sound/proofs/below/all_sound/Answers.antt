use mathlib.Core.Path.{◌≡◌, refl, sym, ◌∙◌, subst}
use Prim.Native.Nat.{ℕ, ◌+◌, ◌*◌}
use native.Mathlib.Omega.{arith}
use Rattle.matrix.specs.Limits.{max_rows}
use Rattle.apart.specs.Code.Subject.{rows_of, far_of}
use Rattle.plan.specs.Code.Checks.{below_whole}
use Rattle.apart.specs.Code.Marks.{UpTo}
use Rattle.apart.proofs.Touching.{unmarked}
use Rattle.sound.proofs.GroupTests.{all-next, all-last}
use Rattle.sound.proofs.below.all_sound.Goals as goal

pub loop-i-init : goal.loop-i-init
loop-i-init c = (refl, (unmarked max_rows refl, unmarked max_rows refl))

pub returns-then-not-sound_below : goal.returns-then-not-sound_below
returns-then-not-sound_below c =
    let s = c.args.subject.now in
    let p = s.plan in
    let turn = all-next (far_of s) (rows_of s) (below_whole p.count p.groups.now) p.count c.loop-i.i p.groups.now c.loop-i-test.true in
    sym (c.loop-i.invariant.0 ∙ turn ∙ rw (← c.if-not-sound_below.ensures.is))

pub loop-i-preserved : goal.loop-i-preserved
loop-i-preserved c =
    let s = c.args.subject.now in
    let p = s.plan in
    let turn = all-next (far_of s) (rows_of s) (below_whole p.count p.groups.now) p.count c.loop-i.i p.groups.now c.loop-i-test.true in
    let e : 1024 * c.loop-i.i + 512 + 512 ≡ 1024 * (c.loop-i.i + 1) = omega arith in
    (c.loop-i.invariant.0 ∙ turn ∙ rw (← c.if-not-sound_below.ensures.is), subst (λ (top : ℕ). UpTo top c.sound_below.new.marks) e (c.if-not-sound_below.ensures.marked refl))

pub returns : goal.returns
returns c =
    let s = c.args.subject.now in
    let p = s.plan in
    sym (c.loop-i.invariant.0 ∙ all-last (far_of s) (rows_of s) (below_whole p.count p.groups.now) p.count c.loop-i.i p.groups.now c.loop-i-test.false)
