-- `read` meets its contract.
use Rattle.std.proofs.Common.{refl}
use Rattle.std.proofs.lemmas.Result.{err_from_is_err_and}
use Rattle.base.specs.Replies.{lent}
use Rattle.numbers.proofs.read.Replies.{read-faulty, read_short, read_fits}
use Rattle.numbers.proofs.read.read.Goals as goal

pub returns-in_err-count : goal.returns-in_err-count
unfolding lent
returns-in_err-count c =
    let r = err_from_is_err_and c.from_residual.result c.from_residual.ensures.1 in
    let j = c.in_err-count.ensures in
    rw (r.1, r.2) (record { replies = read-faulty _ _ j.1 j.2; list = refl })

pub returns-then-list-count : goal.returns-then-list-count
unfolding lent
returns-then-list-count c =
    let j = c.in_ok-count.ensures in
    record { replies = read_short _ _ j.0 j.1 c.low.ensures c.if-list-count.true; list = refl }

pub returns : goal.returns
unfolding lent
returns c =
    let j = c.in_ok-count.ensures in
    record { replies = read_fits _ _ j.0 j.1 c.low-2.ensures c.if-list-count.false; list = c.fill.ensures }
