use mathlib.Core.Path.{sym, subst}
use mathlib.Core.List.{List}
use native.Mathlib.Omega.{arith}
use Rattle.matrix.specs.Held.{held}
use Rattle.market.specs.Parse.{Triplet}
use Rattle.market.specs.Text.{lower}
use Rattle.market.proofs.Lower.Count.{lower-few}
use Rattle.matrix.proofs.Matrix.{matrix_facts}
use Rattle.writer.proofs.rows.Tallies.{Tallying, tallying_start, tallying_more, tallying_small, tallying_end}
use Rattle.writer.proofs.rows.Rows.{left-first, left_end, row-starts-inside, row-values-inside, row-taken, left-taken}
use Rattle.writer.proofs.rows.tally_rows.Goals as goal

pub loop-j-init : goal.loop-j-init
loop-j-init c = subst (λ (left : List Triplet). Tallying (lower (held c.args.m.now)) left 0 0) (sym (left-first (held c.args.m.now))) (tallying_start (lower (held c.args.m.now)))

pub overflow_cast-j : goal.overflow_cast-j
overflow_cast-j c = omega (arith, (matrix_facts (held c.args.m.now) c.requires).few)

pub columns_of-requires : goal.columns_of-requires
columns_of-requires c = row-starts-inside (held c.args.m.now) c.requires c.loop-j.j c.loop-j-test.true

pub values_of-requires : goal.values_of-requires
values_of-requires c = row-values-inside (held c.args.m.now) c.requires c.loop-j.j c.loop-j-test.true

pub tally_row-t-requires : goal.tally_row-t-requires
tally_row-t-requires c = row-taken (held c.args.m.now) c.requires c.loop-j.j c.loop-j-test.true c.columns_of.ensures c.values_of.ensures

pub loop-j-preserved : goal.loop-j-preserved
loop-j-preserved c = tallying_more c.loop-j.invariant (left-taken (held c.args.m.now) c.requires c.loop-j.j c.loop-j-test.true c.columns_of.ensures c.values_of.ensures) c.tally_row-t.ensures

pub overflow_add-entries : goal.overflow_add-entries
overflow_add-entries c =
    let counted = tallying_more c.loop-j.invariant (left-taken (held c.args.m.now) c.requires c.loop-j.j c.loop-j-test.true c.columns_of.ensures c.values_of.ensures) c.tally_row-t.ensures in
    omega (arith, tallying_small counted, lower-few (held c.args.m.now) c.requires)

pub overflow_add-bytes : goal.overflow_add-bytes
overflow_add-bytes c =
    let counted = tallying_more c.loop-j.invariant (left-taken (held c.args.m.now) c.requires c.loop-j.j c.loop-j-test.true c.columns_of.ensures c.values_of.ensures) c.tally_row-t.ensures in
    omega (arith, tallying_small counted, lower-few (held c.args.m.now) c.requires)

pub returns : goal.returns
returns c = tallying_end c.loop-j.invariant (left_end (held c.args.m.now) c.loop-j.j c.loop-j-test.false)
