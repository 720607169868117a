use mathlib.Core.Path.{sym}
use Prim.Native.Nat.{◌+◌}
use native.Mathlib.Omega.{arith}
use lib.ListN.{get_or}
use lib.Seq.{length-take-le}
use Rattle.extents.proofs.Ends.{product-few, sum-next, sum-split}
use Rattle.extents.proofs.NearestEnd.{nearing_start, nearing_nearer, nearing_further, nearing_past, nearing_end}
use Rattle.extents.proofs.nearest_end.Goals as goal
use Rattle.extents.proofs.nearest_end.Goals.{then-d-least, else-d-least}

pub slice_bounds-total-end : goal.slice_bounds-total-end
slice_bounds-total-end c = let a = c.args in sym (length-take-le a.k a.loads.now (omega arith))

pub total-q-requires : goal.total-q-requires
total-q-requires c = let a = c.args in omega (arith, sum-split a.k a.loads.now)

pub overflow_mul-q : goal.overflow_mul-q
overflow_mul-q c =
    let a = c.args in
    omega (arith, product-few c.total-q.result a.x (omega (arith, c.total-q.ensures, sum-split a.k a.loads.now)) (omega arith))

pub loop-i-init : goal.loop-i-init
loop-i-init c =
    let a = c.args in
    nearing_start a.loads.now a.k a.x a.y c.total-q.result c.abs_diff-least.result (omega arith) (omega arith) c.total-q.ensures c.abs_diff-least.ensures

pub overflow_mul-q-in-loop-i : goal.overflow_mul-q-in-loop-i
overflow_mul-q-in-loop-i c =
    let a = c.args in
    let l = c.loop-i in
    omega (arith, product-few l.q a.x (omega (arith, l.invariant.load_is, sum-split l.i a.loads.now)) (omega arith))

pub returns-then-y-q : goal.returns-then-y-q
returns-then-y-q c =
    let a = c.args in
    let l = c.loop-i in
    (nearing_past a.loads.now a.k a.x a.y l.q l.best l.least l.i l.invariant c.if-y-q.true, l.invariant.some, omega (arith, l.invariant.before, l.invariant.within))

pub overflow_add-q : goal.overflow_add-q
overflow_add-q c =
    let a = c.args in
    let l = c.loop-i in
    omega (arith, l.invariant.load_is, sum-next a.loads.now l.i (omega arith), sum-split (l.i + 1) a.loads.now)

pub overflow_mul-q-in-loop-i-2 : goal.overflow_mul-q-in-loop-i-2
overflow_mul-q-in-loop-i-2 c =
    let a = c.args in
    let l = c.loop-i in
    omega (
      arith,
      product-few (l.q + get_or a.loads.now l.i 0) a.x
          (omega (arith, l.invariant.load_is, sum-next a.loads.now l.i (omega arith), sum-split (l.i + 1) a.loads.now))
          (omega arith),
    )

pub loop-i-preserved : goal.loop-i-preserved
loop-i-preserved c =
    let a = c.args in
    let l = c.loop-i in
    elim c.if-d-least.branch [
      | then-d-least w ↦ rw (w.best-is, w.least-is, c.abs_diff-d.ensures) (nearing_nearer a.loads.now a.k a.x a.y l.q l.best l.least l.i l.invariant (omega arith) (rw c.abs_diff-d.ensures at w.if-d-least.true))
      | else-d-least w ↦ rw (w.best-is, w.least-is) (nearing_further a.loads.now a.k a.x a.y l.q l.best l.least l.i l.invariant (omega arith) (rw c.abs_diff-d.ensures at w.if-d-least.false))
    ]

pub returns : goal.returns
returns c =
    let a = c.args in
    let l = c.loop-i in
    (nearing_end a.loads.now a.k a.x a.y l.q l.best l.least l.i l.invariant (omega arith), l.invariant.some, omega (arith, l.invariant.before, l.invariant.within))
