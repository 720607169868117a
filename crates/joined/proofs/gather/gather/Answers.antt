use mathlib.Core.Path.{◌≡◌, ap, ◌∙◌}
use native.Mathlib.Omega.{arith}
use Rattle.base.specs.Lists.{position_of}
use Rattle.matrix.specs.Matrix.{Matrix, columns_of, values_of}
use Rattle.matrix.specs.Held.{held}
use Rattle.joined.proofs.Emitting.{added_same, broken_same}
use Rattle.joined.proofs.Rows.{going_start, going_row, going_past, going_end, entries-same, second-row, tenant_row, zeros-before}
use Rattle.joined.proofs.gather.gather.Goals as goal

pub loop-i-init : goal.loop-i-init
loop-i-init c =
    (rw (c.clear.ensures) (going_start (held c.args.first.now) (held c.args.second.now) c.args.places.now c.args.n), zeros-before, zeros-before)

pub invariant_of-placed : goal.invariant_of-placed
invariant_of-placed c =
    record { shape = second-row (held c.args.first.now) (held c.args.second.now) c.args.places.now c.args.n c.requires.0 c.row_in.result c.row-other.ensures.columns c.row-other.ensures.values }

pub put_row-requires : goal.put_row-requires
put_row-requires c = (omega (arith, c.requires.0.few, c.loop-i-test.true), c.loop-i.invariant.1, c.loop-i.invariant.2)

pub returns-in_err-put_row : goal.returns-in_err-put_row
returns-in_err-put_row c =
    let a = c.args in
    let one : Matrix = held a.first.now in
    let two : Matrix = held a.second.now in
    let i = c.loop-i.i in
    let row_is : c.row_in.result ≡ position_of a.places.now i = tenant_row one two a.places.now c.requires.0.placed i (c.requires.1 i) c.row_in.ensures.none c.row_in.ensures.some in
    let same = entries-same i a.places.now c.row.ensures.columns c.row.ensures.values (c.row-other.ensures.columns ∙ ap (columns_of two) row_is) (c.row-other.ensures.values ∙ ap (values_of two) row_is) in
    rw c.from_residual.ensures (going_past one two a.places.now a.n c.requires.0 c.loop-i.invariant.0 c.loop-i-test.true (broken_same same _ c.in_err-put_row.ensures.told))

pub loop-i-preserved : goal.loop-i-preserved
loop-i-preserved c =
    let a = c.args in
    let one : Matrix = held a.first.now in
    let two : Matrix = held a.second.now in
    let i = c.loop-i.i in
    let row_is : c.row_in.result ≡ position_of a.places.now i = tenant_row one two a.places.now c.requires.0.placed i (c.requires.1 i) c.row_in.ensures.none c.row_in.ensures.some in
    let same = entries-same i a.places.now c.row.ensures.columns c.row.ensures.values (c.row-other.ensures.columns ∙ ap (columns_of two) row_is) (c.row-other.ensures.values ∙ ap (values_of two) row_is) in
    (going_row one two a.places.now a.n c.requires.0 c.loop-i.invariant.0 c.loop-i-test.true (added_same same c.in_ok-put_row.ensures.told), c.in_ok-put_row.ensures.marks, c.in_ok-put_row.ensures.seen)

pub returns : goal.returns
returns c =
    going_end (held c.args.first.now) (held c.args.second.now) c.args.places.now c.args.n c.loop-i.invariant.0 (omega arith)
