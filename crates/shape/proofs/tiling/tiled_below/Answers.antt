use mathlib.Core.Path.{sym, ap, ◌∙◌}
use native.Mathlib.Omega.{arith}
use Rattle.plan.specs.Groups.{Group, group_of}
use Rattle.plan.specs.Code.Checks.{record_at, complete}
use Rattle.plan.proofs.Laid.{fits}
use Rattle.shape.specs.Code.Shape.{index_of}
use Rattle.shape.proofs.ChildTurns.{leaf-tiles, first-tiles, next-tiles, last-tiles}
use Rattle.shape.proofs.tiling.tiled_below.Goals as goal

pub returns-then-is_none : goal.returns-then-is_none
returns-then-is_none c =
    let p = c.args.plan.now in
    sym (leaf-tiles p.count c.args.k p.groups.now c.next_child-next.result _ c.requires.1 c.next_child-next.ensures c.if-is_none.ensures)

pub loop-next-init : goal.loop-next-init
loop-next-init c =
    let p = c.args.plan.now in
    let g = c.record-g in
    let e = c.next_child-next.ensures in (
      first-tiles p.count c.args.k p.groups.now c.next_child-next.result g.result.start g.result.first _ c.requires.1 e c.if-is_none.ensures
          (ap (λ (x : Group). x.start) g.ensures) (ap (λ (x : Group). x.first) g.ensures),
      omega (arith, e.from_on),
      e.within,
      e.child,
    )

pub record-h-requires : goal.record-h-requires
record-h-requires c = omega (arith, c.requires.0, (c.loop-next.invariant.3 c.in-Some.i c.in-Some.is).0)

pub returns-then-not-fits : goal.returns-then-not-fits
returns-then-not-fits c =
    let p = c.args.plan.now in
    let L = c.loop-next in
    let here = L.invariant.3 c.in-Some.i c.in-Some.is in
    let turn = next-tiles p.count c.args.k p.groups.now c.in-Some.i L.s L.f L.w (record_at p.groups.now c.args.k) (group_of c.record-h.result) here.0 here.1 c.record-h.ensures in
    sym (rw c.in-Some.is at L.invariant.0 ∙ turn ∙ rw (← c.if-not-fits.ensures))

pub overflow_add-s : goal.overflow_add-s
overflow_add-s c = omega (arith, (fits _ _ _ _ (sym c.if-not-fits.ensures)).start)

pub overflow_add-f : goal.overflow_add-f
overflow_add-f c =
    let f = fits _ _ _ _ (sym c.if-not-fits.ensures) in
    omega (arith, f.first, f.workers)

pub next_child-next-requires-in-Some : goal.next_child-next-requires-in-Some
next_child-next-requires-in-Some c =
    let L = c.loop-next in
    let here = ap (index_of c.args.plan.now.count) c.in-Some.is in
    (c.requires.0, c.requires.1, omega (arith, L.invariant.1, here), omega (arith, (L.invariant.3 c.in-Some.i c.in-Some.is).0))

pub loop-next-smaller : goal.loop-next-smaller
loop-next-smaller c =
    let L = c.loop-next in
    let here = ap (index_of c.args.plan.now.count) c.in-Some.is in
    omega (arith, here, c.next_child-next-in-Some.ensures.from_on, (L.invariant.3 c.in-Some.i c.in-Some.is).0)

pub loop-next-preserved : goal.loop-next-preserved
loop-next-preserved c =
    let p = c.args.plan.now in
    let L = c.loop-next in
    let here = L.invariant.3 c.in-Some.i c.in-Some.is in
    let at = ap (index_of p.count) c.in-Some.is in
    let turn = next-tiles p.count c.args.k p.groups.now c.in-Some.i L.s L.f L.w (record_at p.groups.now c.args.k) (group_of c.record-h.result) here.0 here.1 c.record-h.ensures in
    let e = c.next_child-next-in-Some.ensures in (
      rw c.in-Some.is at L.invariant.0 ∙ turn ∙ rw (← c.if-not-fits.ensures, e.same, c.next_pending-w.ensures),
      omega (arith, L.invariant.1, e.from_on, at),
      e.within,
      e.child,
    )

pub returns : goal.returns
returns c =
    let p = c.args.plan.now in
    let L = c.loop-next in
    let at = ap (index_of p.count) c.in_default.is in
    c.ends.ensures
    ∙ ap (complete L.s L.f L.w) c.record-g.ensures
    ∙ sym (L.invariant.0 ∙ last-tiles p.count c.args.k p.groups.now (index_of p.count L.next) L.s L.f L.w (record_at p.groups.now c.args.k) (omega (arith, at)))
