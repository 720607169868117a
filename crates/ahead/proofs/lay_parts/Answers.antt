use mathlib.Core.Path.{refl}
use native.Mathlib.Omega.{arith}
use Rattle.ahead.proofs.AheadRows.{few-rows, with_fewer, going_start, going_same, going_more}
use Rattle.ahead.proofs.lay_parts.Goals as goal
use Rattle.ahead.proofs.lay_parts.Goals.{then-p-last+in_ok-next, else-p-last}

pub loop-k-init : goal.loop-k-init
loop-k-init g c = (c.requires.2, λ rows h. going_start h)

pub loop-k-preserved : goal.loop-k-preserved
loop-k-preserved g c =
    let i = c.loop-k.invariant in
    elim c.if-p-last.branch [
      | then-p-last+in_ok-next w ↦
          let e = w.in_ok-next.ensures in
          rw (w.triangle-is, w.next-is, w.last-is)
          (e.0, λ rows h. (let s = i.1 rows h in going_more s refl (e.1 s.more s.laid)))
      | else-p-last w ↦
          rw (w.triangle-is, w.next-is, w.last-is)
          (i.0, λ rows h. going_same (i.1 rows h) refl w.if-p-last.false (omega (arith, c.requires.0 c.loop-k.k, few-rows c.args.rows.now.ordered.lent)))
    ]

pub returns : goal.returns
returns g c =
    let i = c.loop-k.invariant in
    (i.0, λ rows h. (let s = i.1 rows h in (s.more, with_fewer s.taken c.loop-k-test.false, s.laid)))
