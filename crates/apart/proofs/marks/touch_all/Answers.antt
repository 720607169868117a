use mathlib.Core.Path.{◌≡◌, subst}
use mathlib.Core.Bool.{true}
use mathlib.Core.List.{List}
use Prim.Native.Nat.{ℕ, ◌+◌}
use native.Mathlib.Omega.{arith}
use lib.ListN.{take}
use lib.Seq.{take_all}
use Rattle.apart.specs.Code.Marks.{Touched}
use Rattle.apart.proofs.Touching.{touched-next, touched-stops}
use Rattle.apart.proofs.marks.touch_all.Goals as goal

pub returns-then-not-touch : goal.returns-then-not-touch
returns-then-not-touch c =
    touched-stops _ _ c.args.rows.now c.loop-j.j (omega arith) _ _ _ c.loop-j.invariant.0 (c.if-not-touch.ensures)

pub returns-then-not-touch-2 : goal.returns-then-not-touch-2
returns-then-not-touch-2 c =
    let first = touched-next c.args.pen.low c.args.pen.mine c.args.rows.now c.loop-j.j (omega arith) c.args.marks.now c.loop-j.marks c.touch.new.marks true c.loop-j.invariant.0 (c.if-not-touch.ensures) in
    touched-stops _ _ c.args.rows.now (c.loop-j.j + 1) (omega arith) _ _ _ first (c.if-not-touch-2.ensures)

pub loop-j-preserved : goal.loop-j-preserved
loop-j-preserved c =
    let a = c.args in
    let first = touched-next a.pen.low a.pen.mine a.rows.now c.loop-j.j (omega arith) a.marks.now c.loop-j.marks c.touch.new.marks true c.loop-j.invariant.0 (c.if-not-touch.ensures) in
    let two : c.loop-j.j + 1 + 1 ≡ c.loop-j.j + 2 = omega arith in (
      subst (λ (j : ℕ). Touched a.pen.low a.pen.mine (take j a.rows.now) a.marks.now c.touch-in-loop-j.new.marks true) two
          (touched-next _ _ a.rows.now (c.loop-j.j + 1) (omega arith) _ _ _ true first (c.if-not-touch-2.ensures)),
      omega arith,
    )

pub returns-then-j-rows : goal.returns-then-j-rows
returns-then-j-rows c =
    let a = c.args in
    let t = c.touch-then-j-rows in
    subst (λ (zs : List ℕ). Touched a.pen.low a.pen.mine zs a.marks.now t.new.marks t.result) (take_all (c.loop-j.j + 1) a.rows.now (omega arith))
    (touched-next _ _ a.rows.now c.loop-j.j (omega arith) _ _ _ t.result c.loop-j.invariant.0 t.ensures)
