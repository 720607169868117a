-- `lay_part` meets its contract.
use mathlib.Core.Path.{ap}
use Prim.Native.Nat.{◌+◌, ◌≤◌, ◌<◌}
use native.Mathlib.Omega.{arith}
use lib.ListN.{get_or}
use Rattle.ahead.proofs.AheadRows.{few-rows, size_few, parts_more}
use borrow.Author.Rules.{rules}
use Rattle.ahead.proofs.lay_part.Goals as goal

pub bounds-rows-p : goal.bounds-rows-p
bounds-rows-p g c =
    let row : c.args.p < 4096 = omega (arith, c.requires.0, few-rows c.args.rows.now.ordered.lent) in
    search rules

pub offset_bounds-rows-p : goal.offset_bounds-rows-p
offset_bounds-rows-p g c =
    let row : c.args.p < 4096 = omega (arith, c.requires.0, few-rows c.args.rows.now.ordered.lent) in
    search rules

pub overflow_add-end : goal.overflow_add-end
overflow_add-end g c =
    let r = c.args.rows.now in
    let size : get_or r.sizes.now c.args.p 0 ≤ 4096 = size_few r.ordered.lent r.sizes_are c.args.p c.requires.0 in
    omega (arith, c.requires.1, c.args.triangle.now.most)

pub offset_bounds-triangle-p : goal.offset_bounds-triangle-p
offset_bounds-triangle-p g c =
    let row : c.args.p < 4096 = omega (arith, c.requires.0, few-rows c.args.rows.now.ordered.lent) in
    search rules

pub bounds-triangle-p : goal.bounds-triangle-p
bounds-triangle-p g c =
    let row : c.args.p < 4096 = omega (arith, c.requires.0, few-rows c.args.rows.now.ordered.lent) in
    search rules

pub returns : goal.returns
returns g c =
    let r = c.args.rows.now in
    let row : c.args.p < 4096 = omega (arith, c.requires.0, few-rows r.ordered.lent) in
    let is = r.sizes_are.is c.args.p c.requires.0 in
    let t = c.lay_row.ensures in
    (c.if-end.false, λ rows h. rw t.2 (parts_more _ _ h t.0 t.1 row (ap (◌+◌ c.args.place) is) (omega (arith, c.if-end.false))))
