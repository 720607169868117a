use mathlib.Core.Path.{refl, sym, ◌∙◌}
use native.Mathlib.Omega.{arith}
use lib.ListN.{length-set}
use borrow.Author.Tests.{le-leb, lt-leb, eq-eqb, ne_eqb}
use Rattle.plan.specs.Groups.{group_of}
use Rattle.plan.specs.Sound.{max_depth, depth_first}
use Rattle.shape.specs.Code.Shape.{path_of}
use Rattle.plan.proofs.FlatRecords.{records-none}
use Rattle.shape.proofs.Path.{path_push, depth-turn}
use Rattle.shape.proofs.nesting.depth_first.Goals as goal
use Rattle.shape.proofs.nesting.depth_first.Goals.{then-up-lt1-via-then-up-lt1, then-up-lt1-via-else-up-lt1+then-up-gt-MAX_DEPTH}

pub loop-i-init : goal.loop-i-init
unfolding path_of
loop-i-init c = (refl, omega arith, refl)

pub returns-then-up-lt1 : goal.returns-then-up-lt1
returns-then-up-lt1 c =
    let p = c.args.plan.now in
    let turn = depth-turn p.count c.loop-i.i c.loop-i.t c.up_to-up.result (group_of c.record-g.result) p.groups.now c.loop-i.path c.loop-i-test.true c.record-g.ensures c.up_to-up.ensures.0 in
    elim c.then-up-lt1.branch [
      | then-up-lt1-via-then-up-lt1 w ↦ sym (c.loop-i.invariant.0 ∙ turn ∙ rw (lt-leb 1 _ w.if-up-lt1.true))
      | then-up-lt1-via-else-up-lt1+then-up-gt-MAX_DEPTH w ↦ sym (c.loop-i.invariant.0 ∙ turn ∙ rw (le-leb 1 _ w.if-up-lt1.false, lt-leb _ max_depth w.if-up-gt-MAX_DEPTH.true))
    ]

pub returns-then-g-up : goal.returns-then-g-up
returns-then-g-up c =
    let p = c.args.plan.now in
    let turn = depth-turn p.count c.loop-i.i c.loop-i.t c.up_to-up.result (group_of c.record-g.result) p.groups.now c.loop-i.path c.loop-i-test.true c.record-g.ensures c.up_to-up.ensures.0 in
    sym (c.loop-i.invariant.0 ∙ turn ∙ rw (le-leb 1 _ c.if-up-lt1.false, le-leb _ max_depth c.if-up-gt-MAX_DEPTH.false, ne_eqb _ _ c.if-g-up.true))

pub loop-i-preserved : goal.loop-i-preserved
loop-i-preserved c =
    let p = c.args.plan.now in
    let up = c.up_to-up.result in
    let turn = depth-turn p.count c.loop-i.i c.loop-i.t up (group_of c.record-g.result) p.groups.now c.loop-i.path c.loop-i-test.true c.record-g.ensures c.up_to-up.ensures.0 in (
      c.loop-i.invariant.0 ∙ turn ∙ rw (le-leb 1 up c.if-up-lt1.false, le-leb up max_depth c.if-up-gt-MAX_DEPTH.false, eq-eqb _ up c.if-g-up.false, path_push c.loop-i.path up c.loop-i.i (omega arith)),
      omega arith,
      length-set c.loop-i.path up c.loop-i.i ∙ c.loop-i.invariant.2,
    )

pub returns : goal.returns
unfolding depth_first
returns c =
    let p = c.args.plan.now in
    sym (c.loop-i.invariant.0 ∙ rw (records-none p.count c.loop-i.i p.groups.now c.loop-i-test.false))
