-- `row`: none past the last row.
use mathlib.Core.Path.{sym, ◌∙◌}
use Rattle.matrix.specs.Matrix.{columns_of, values_of}
use Rattle.matrix.specs.Held.{held}
use Rattle.matrix.proofs.Checks.{matrix_tidy}
use Rattle.matrix.proofs.Rows.{columns-in, values_in, columns-part, values-part}
use Rattle.joined.proofs.Rows.{part-past, first-row}
use Rattle.joined.proofs.gather.row.Goals as goal

pub returns-then-m-i-clause-columns : goal.returns-then-m-i-clause-columns
unfolding columns_of
returns-then-m-i-clause-columns c = sym (part-past (held c.args.m.now) c.args.m.now.columns.now c.args.i c.if-m-i.true)

pub returns-then-m-i-clause-values : goal.returns-then-m-i-clause-values
unfolding values_of
returns-then-m-i-clause-values c = sym (part-past (held c.args.m.now) c.args.m.now.values.now c.args.i c.if-m-i.true)

pub columns_of-requires : goal.columns_of-requires
columns_of-requires c = columns-in (held c.args.m.now) (matrix_tidy (held c.args.m.now) c.requires).shape _ c.if-m-i.false

pub values_of-requires : goal.values_of-requires
values_of-requires c = values_in (held c.args.m.now) (matrix_tidy (held c.args.m.now) c.requires).shape _ c.if-m-i.false

pub invariant_of-result-2 : goal.invariant_of-result-2
invariant_of-result-2 c =
    let m = held c.args.m.now in
    record { shape = first-row m c.requires c.args.i (c.columns_of.ensures ∙ sym (columns-part m c.args.i c.if-m-i.false)) (c.values_of.ensures ∙ sym (values-part m c.args.i c.if-m-i.false)) }

pub returns-clause-columns : goal.returns-clause-columns
returns-clause-columns c = c.columns_of.ensures ∙ sym (columns-part (held c.args.m.now) c.args.i c.if-m-i.false)

pub returns-clause-values : goal.returns-clause-values
returns-clause-values c = c.values_of.ensures ∙ sym (values-part (held c.args.m.now) c.args.i c.if-m-i.false)
