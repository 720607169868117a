-- `is_plan_at`: the lengths, then pass by pass.
use mathlib.Core.Path.{sym, ap, ◌∙◌}
use Rattle.matrix.specs.Held.{held}
use Rattle.sound.specs.Code.Whole.{is_whole}
use Rattle.sound.proofs.PlanTests.{order-short, no-groups, many-groups, groups-short, plan-passes}
use Rattle.sound.proofs.is_plan_at.Goals as goal
use Rattle.sound.proofs.is_plan_at.Goals.{
  then-plan-m-via-then-plan-m,
  then-plan-m-via-else-plan-m+then-plan-lt1,
  then-plan-m-via-else-plan-m+else-plan-lt1+then-plan-gt-MAX_GROUPS,
}

pub returns-then-plan-m : goal.returns-then-plan-m
returns-then-plan-m c =
    let p = c.args.plan.now in
    let m = held c.args.m.now in
    elim c.then-plan-m.branch [
      | then-plan-m-via-then-plan-m w ↦ sym (order-short c.args.k m p.order.now p.groups.now p.count w.if-plan-m.true)
      | then-plan-m-via-else-plan-m+then-plan-lt1 w ↦ sym (no-groups c.args.k m p.order.now p.groups.now p.count w.if-plan-lt1.true)
      | then-plan-m-via-else-plan-m+else-plan-lt1+then-plan-gt-MAX_GROUPS w ↦ sym (many-groups c.args.k m p.order.now p.groups.now p.count w.if-plan-gt-MAX_GROUPS.true)
    ]

pub returns-then-plan : goal.returns-then-plan
returns-then-plan c =
    let p = c.args.plan.now in
    sym (groups-short c.args.k (held c.args.m.now) p.order.now p.groups.now p.count c.if-plan.true)

pub returns-then-not-is_whole : goal.returns-then-not-is_whole
returns-then-not-is_whole c =
    let p = c.args.plan.now in
    let m = held c.args.m.now in
    let long = plan-passes c.args.k m p.order.now p.groups.now p.count c.if-plan-m.false c.if-plan-lt1.false c.if-plan-gt-MAX_GROUPS.false c.if-plan.false in
    let whole_is = c.if-not-is_whole.ensures ∙ ap (is_whole m.n) c.record.ensures in
    sym (long ∙ rw (← whole_is))

pub each_once-requires : goal.each_once-requires
each_once-requires c = (c.if-plan-m.false, c.requires.0.few)

pub returns-then-not-each_once : goal.returns-then-not-each_once
returns-then-not-each_once c =
    let p = c.args.plan.now in
    let m = held c.args.m.now in
    let long = plan-passes c.args.k m p.order.now p.groups.now p.count c.if-plan-m.false c.if-plan-lt1.false c.if-plan-gt-MAX_GROUPS.false c.if-plan.false in
    let whole_is = c.if-not-is_whole.ensures ∙ ap (is_whole m.n) c.record.ensures in
    sym (long ∙ rw (← whole_is, ← c.if-not-each_once.ensures))

pub returns-then-not-depth_first : goal.returns-then-not-depth_first
returns-then-not-depth_first c =
    let p = c.args.plan.now in
    let m = held c.args.m.now in
    let long = plan-passes c.args.k m p.order.now p.groups.now p.count c.if-plan-m.false c.if-plan-lt1.false c.if-plan-gt-MAX_GROUPS.false c.if-plan.false in
    let whole_is = c.if-not-is_whole.ensures ∙ ap (is_whole m.n) c.record.ensures in
    sym (long ∙ rw (← whole_is, ← c.if-not-each_once.ensures, ← c.if-not-depth_first.ensures))

pub returns : goal.returns
returns c =
    let p = c.args.plan.now in
    let m = held c.args.m.now in
    let long = plan-passes c.args.k m p.order.now p.groups.now p.count c.if-plan-m.false c.if-plan-lt1.false c.if-plan-gt-MAX_GROUPS.false c.if-plan.false in
    let whole_is = c.if-not-is_whole.ensures ∙ ap (is_whole m.n) c.record.ensures in
    c.all_sound.ensures ∙ sym (long ∙ rw (← whole_is, ← c.if-not-each_once.ensures, ← c.if-not-depth_first.ensures))
