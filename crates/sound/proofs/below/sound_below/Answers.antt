-- `below::sound_below`: tiled, then the reds apart, then the blues.
use mathlib.Core.Path.{refl, sym, ◌∙◌}
use mathlib.Core.Bool.{true≢false}
use native.Mathlib.Omega.{arith}
use Rattle.apart.specs.Code.Subject.{rows_of, far_of}
use Rattle.plan.specs.Sound.{children}
use Rattle.plan.specs.Code.Checks.{record_at, below_whole}
use Rattle.sound.proofs.GroupTests.{tiles_fail, sound-colours}
use Rattle.sound.proofs.below.sound_below.Goals as goal

pub returns-then-not-tiled_below : goal.returns-then-not-tiled_below
returns-then-not-tiled_below c = record { is = sym (tiles_fail _ _ _ _ (sym c.if-not-tiled_below.ensures)); marked = λ e. absurd (true≢false (sym e)) }

pub returns-then-not-apart_below : goal.returns-then-not-apart_below
returns-then-not-apart_below c =
    let s = c.args.subject.now in
    let p = s.plan in
    let two-colours = sound-colours (far_of s) (rows_of s) (record_at p.groups.now c.args.parent) (children c.args.parent (below_whole p.count p.groups.now)) (sym c.if-not-tiled_below.ensures) in
    let reds = rw c.number.ensures at c.if-not-apart_below.ensures.is in
    record { is = sym (two-colours ∙ rw (← reds)); marked = λ e. absurd (true≢false (sym e)) }

pub apart_below-requires-2 : goal.apart_below-requires-2
apart_below-requires-2 c = (c.requires.0, c.if-not-apart_below.ensures.marked refl, omega (arith, c.requires.2))

pub returns : goal.returns
returns c =
    let s = c.args.subject.now in
    let p = s.plan in
    let two-colours = sound-colours (far_of s) (rows_of s) (record_at p.groups.now c.args.parent) (children c.args.parent (below_whole p.count p.groups.now)) (sym c.if-not-tiled_below.ensures) in
    let reds = rw c.number.ensures at c.if-not-apart_below.ensures.is in
    let blues = rw c.number-2.ensures at c.apart_below-2.ensures.is in
    record { is = blues ∙ sym (two-colours ∙ rw (← reds)); marked = c.apart_below-2.ensures.marked }
