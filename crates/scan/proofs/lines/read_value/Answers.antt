-- `read_value` meets its contract.
use mathlib.Core.Path.{◌≡◌, sym, ◌∙◌}
use Prim.Native.Nat.{◌<◌}
use native.Mathlib.Omega.{arith}
use lib.IntN.{pos}
use mir.Syntax.{w64}
use mir.Val.{to_z}
use mir.Facts.{to_z-of_z}
use mir.ValLaws.{to_z_pos}
use Rattle.scan.proofs.lines.Values.{value_end, signed_no, signed-zero, signed-some, plain-no, plain-some, small, minus-fits}
use Rattle.scan.proofs.lines.read_value.Goals as goal

pub returns-then-s-at : goal.returns-then-s-at
returns-then-s-at c = value_end c.args.s.now c.args.at c.if-s-at.true

pub returns-in_err-v : goal.returns-in_err-v
returns-in_err-v c =
    let a = c.args in
    c.from_residual.ensures ∙ signed_no a.s.now a.at c.if-s-at.false (sym c.class_of.ensures ∙ c.if-class_of-eq-SIGN.true) c.in_err-v.ensures

pub returns-then-v-eq0 : goal.returns-then-v-eq0
returns-then-v-eq0 c =
    let a = c.args in
    signed-zero a.s.now a.at c.if-s-at.false c.in_ok-v.v c.in_ok-v.p c.if-v-eq0.true (sym c.class_of.ensures ∙ c.if-class_of-eq-SIGN.true) c.in_ok-v.ensures

pub overflow_cast-m : goal.overflow_cast-m
overflow_cast-m c =
    let bound : c.in_ok-v.v < 10000000000 = small _ _ c.in_ok-v.v c.in_ok-v.p c.in_ok-v.ensures in
    record { sfits = omega (arith, bound) }

pub overflow_sub-result : goal.overflow_sub-result
overflow_sub-result c =
    let bound : c.in_ok-v.v < 10000000000 = small _ _ c.in_ok-v.v c.in_ok-v.p c.in_ok-v.ensures in
    rw (to_z_pos w64 c.in_ok-v.v (omega (arith, bound))) (minus-fits _ bound)

pub returns-then-class_of-eq-SIGN : goal.returns-then-class_of-eq-SIGN
returns-then-class_of-eq-SIGN c =
    let bound : c.in_ok-v.v < 10000000000 = small _ _ c.in_ok-v.v c.in_ok-v.p c.in_ok-v.ensures in
    let a = c.args in
    let v = c.in_ok-v.v in
    let e : to_z w64 v ≡ pos v = to_z_pos w64 v (omega (arith, bound)) in
    rw (e, to_z-of_z (minus-fits v bound))
    (signed-some a.s.now a.at c.if-s-at.false v c.in_ok-v.p c.if-v-eq0.false (sym c.class_of.ensures ∙ c.if-class_of-eq-SIGN.true) c.in_ok-v.ensures)

pub returns-in_err-w : goal.returns-in_err-w
returns-in_err-w c =
    let a = c.args in
    c.from_residual-in_err-w.ensures ∙ plain-no a.s.now a.at c.if-s-at.false (λ e. c.if-class_of-eq-SIGN.false (c.class_of.ensures ∙ e)) c.in_err-w.ensures

pub overflow_cast-result : goal.overflow_cast-result
overflow_cast-result c =
    let bound2 : c.in_ok-w.w < 10000000000 = small _ _ c.in_ok-w.w c.in_ok-w.q c.in_ok-w.ensures in
    record { sfits = omega (arith, bound2) }

pub returns : goal.returns
returns c =
    let bound2 : c.in_ok-w.w < 10000000000 = small _ _ c.in_ok-w.w c.in_ok-w.q c.in_ok-w.ensures in
    let a = c.args in
    let v = c.in_ok-w.w in
    let e : to_z w64 v ≡ pos v = to_z_pos w64 v (omega (arith, bound2)) in
    rw e
    (plain-some a.s.now a.at c.if-s-at.false v c.in_ok-w.q (λ e. c.if-class_of-eq-SIGN.false (c.class_of.ensures ∙ e)) c.in_ok-w.ensures)
