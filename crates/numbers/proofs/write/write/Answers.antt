-- `write` meets its contract.
use Rattle.std.proofs.Common.{ℕ, ◌%◌, ◌^◌, refl, ap, ◌∙◌}
use Rattle.std.proofs.lemmas.Result.{err_from_is_err_and}
use Rattle.base.specs.Replies.{lent}
use Rattle.numbers.specs.Calls.{write_numbers_reply}
use Rattle.numbers.proofs.Filled.{filled-short, filled-fits}
use Rattle.numbers.proofs.write.Sizes.{size-short, size_fits}
use Rattle.numbers.proofs.write.write.Goals as goal

pub returns-in_err-bytes : goal.returns-in_err-bytes
unfolding lent write_numbers_reply
returns-in_err-bytes c =
    let r = err_from_is_err_and c.from_residual.result c.from_residual.ensures.1 in
    let n = size-short _ _ _ c.in_err-bytes.ensures in
    rw (r.1, r.2, n.0) (record { replies = filled-short _ _ _ refl n.1; text = refl })

pub returns : goal.returns
unfolding lent write_numbers_reply
returns c =
    let f = size_fits _ _ c.in_ok-bytes.bytes c.in_ok-bytes.ensures in
    record { replies = filled-fits _ _ _ (c.low.ensures ∙ ap (λ (n : ℕ). n % 2 ^ 32) f.0) f.1; text = c.fill.ensures }
