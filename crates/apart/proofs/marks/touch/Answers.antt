-- `marks::touch`: one row.
use mathlib.Core.Path.{◌≡◌, sym, ap, ◌∙◌}
use mathlib.Core.Logic.{inl, inr}
use native.Mathlib.Omega.{arith}
use lib.ListN.{get_or, set}
use lib.Seq.{set-get_or}
use Rattle.apart.proofs.Touching.{touched_clash, touched-free}
use Rattle.apart.proofs.marks.touch.Goals as goal

-- a row that has the mark keeps it
pub returns-then-m-pen : goal.returns-then-m-pen
returns-then-m-pen c =
    let a = c.args in
    let e : get_or a.marks.now a.z 0 ≡ a.pen.mine = c.if-m-pen.true in
    let same : set a.marks.now a.z a.pen.mine ≡ a.marks.now = ap (set a.marks.now a.z) (sym e) ∙ set-get_or a.marks.now a.z 0 in
    rw same at (touched-free a.pen.low a.pen.mine a.marks.now a.z (omega arith) (inr e))

pub returns-then-pen-m : goal.returns-then-pen-m
returns-then-pen-m c =
    let a = c.args in
    touched_clash a.pen.low a.pen.mine a.marks.now a.marks.now a.z c.if-pen-m.true c.if-m-pen.false

pub returns : goal.returns
returns c =
    let a = c.args in
    touched-free a.pen.low a.pen.mine a.marks.now a.z (omega arith) (inl c.if-pen-m.false)
