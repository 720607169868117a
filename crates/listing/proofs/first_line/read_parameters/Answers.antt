use mathlib.Core.Path.{◌∙◌}
use Rattle.listing.proofs.FirstLine.{no-first, no_gap, other-gap, no_second, more_after, both-given}
use Rattle.listing.proofs.first_line.read_parameters.Goals as goal

pub returns-in_err-workers : goal.returns-in_err-workers
returns-in_err-workers c = c.from_residual.ensures ∙ no-first c.args.line.now c.in_err-workers.ensures

pub returns-then-line-gap : goal.returns-then-line-gap
returns-then-line-gap c = no_gap c.args.line.now c.in_ok-workers.ensures c.if-line-gap.true

pub returns-then-line-gap-ne32 : goal.returns-then-line-gap-ne32
returns-then-line-gap-ne32 c = other-gap c.args.line.now c.in_ok-workers.ensures c.if-line-gap-ne32.true

pub returns-in_err-p : goal.returns-in_err-p
returns-in_err-p c =
    c.from_residual-in_err-p.ensures ∙ no_second c.args.line.now c.in_ok-workers.ensures c.if-line-gap.false c.if-line-gap-ne32.false c.in_err-p.ensures

pub returns-then-end-line : goal.returns-then-end-line
returns-then-end-line c =
    more_after c.args.line.now c.in_ok-workers.ensures c.if-line-gap.false c.if-line-gap-ne32.false c.in_ok-p.ensures c.if-end-line.true

pub returns : goal.returns
returns c =
    both-given c.args.line.now c.in_ok-workers.ensures c.if-line-gap.false c.if-line-gap-ne32.false c.in_ok-p.ensures c.if-end-line.false c.narrow.ensures c.narrow-2.ensures
