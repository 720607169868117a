use mathlib.Core.Path.{sym, ap, subst, ◌∙◌}
use mathlib.Core.List.{List}
use Prim.Native.Nat.{◌+◌}
use native.Mathlib.Omega.{arith}
use Rattle.matrix.specs.Held.{held}
use Rattle.market.specs.Parse.{Triplet}
use Rattle.market.specs.Text.{lower}
use Rattle.matrix.proofs.Matrix.{matrix_facts}
use Rattle.writer.specs.Code.Puts.{from_diagonal, lines_of}
use Rattle.writer.proofs.puts.Putting.{Putting, Next, putting_start, putting_room, putting_more, putting_end}
use Rattle.writer.proofs.rows.Entries.{lines-append}
use Rattle.writer.proofs.rows.Rows.{lower_left, left-first, left_end, row-starts-inside, row-values-inside, row-taken, left-taken}
use Rattle.writer.proofs.rows.put_rows.Goals as goal

pub loop-j-init : goal.loop-j-init
loop-j-init c =
    subst (λ (left : List Triplet). Putting (lines_of (lower (held c.args.m.now))) (lines_of left) c.args.at c.args.at c.args.text.now c.args.text.now) (sym (left-first (held c.args.m.now)))
    (putting_start (lines_of (lower (held c.args.m.now))) c.args.at c.args.text.now c.requires.1)

pub overflow_cast-j : goal.overflow_cast-j
overflow_cast-j c = omega (arith, (matrix_facts (held c.args.m.now) c.requires.0).few)

pub columns_of-requires : goal.columns_of-requires
columns_of-requires c = row-starts-inside (held c.args.m.now) c.requires.0 c.loop-j.j c.loop-j-test.true

pub values_of-requires : goal.values_of-requires
values_of-requires c = row-values-inside (held c.args.m.now) c.requires.0 c.loop-j.j c.loop-j-test.true

pub put_row-p-requires : goal.put_row-p-requires
put_row-p-requires c =
    let next : Next (lines_of (lower_left (held c.args.m.now) c.loop-j.j)) (lines_of (from_diagonal c.loop-j.j c.columns_of.result.now c.values_of.result.now)) (lines_of (lower_left (held c.args.m.now) (c.loop-j.j + 1))) = record {
      is = ap (λ (es : List Triplet). lines_of es) (left-taken (held c.args.m.now) c.requires.0 c.loop-j.j c.loop-j-test.true c.columns_of.ensures c.values_of.ensures) ∙ lines-append (from_diagonal c.loop-j.j c.columns_of.result.now c.values_of.result.now) (lower_left (held c.args.m.now) (c.loop-j.j + 1));
    } in
    (row-taken (held c.args.m.now) c.requires.0 c.loop-j.j c.loop-j-test.true c.columns_of.ensures c.values_of.ensures, putting_room c.loop-j.invariant next)

pub loop-j-preserved : goal.loop-j-preserved
loop-j-preserved c =
    let next : Next (lines_of (lower_left (held c.args.m.now) c.loop-j.j)) (lines_of (from_diagonal c.loop-j.j c.columns_of.result.now c.values_of.result.now)) (lines_of (lower_left (held c.args.m.now) (c.loop-j.j + 1))) = record {
      is = ap (λ (es : List Triplet). lines_of es) (left-taken (held c.args.m.now) c.requires.0 c.loop-j.j c.loop-j-test.true c.columns_of.ensures c.values_of.ensures) ∙ lines-append (from_diagonal c.loop-j.j c.columns_of.result.now c.values_of.result.now) (lower_left (held c.args.m.now) (c.loop-j.j + 1));
    } in
    putting_more c.loop-j.invariant next c.put_row-p.ensures

pub returns : goal.returns
returns c = putting_end c.loop-j.invariant (ap (λ (es : List Triplet). lines_of es) (left_end (held c.args.m.now) c.loop-j.j c.loop-j-test.false))
