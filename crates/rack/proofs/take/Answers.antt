-- `take` meets its contract: refused, or gone through.
use native.Mathlib.Omega.{arith}
use Rattle.std.proofs.Common.{◌≡◌, Err}
use Rattle.rack.proofs.Refused.{fine}
use Rattle.rack.proofs.Takes.{took_refused, took}
use Rattle.rack.proofs.take.Goals as goal

pub returns-in_err-sizes : goal.returns-in_err-sizes
returns-in_err-sizes c =
    let up : c.from_residual.result ≡ Err c.in_err-sizes.field-0.0 = grind arith in
    rw up (took_refused _ _ _ _ _ c.in_err-sizes.ensures)

pub returns : goal.returns
returns c =
    let a = c.args in
    let e = c.in_ok-sizes.ensures in
    took (fine _ _ _ e.free) a.rule a.schedule.now e.state-is c.walk-walked.result _ e.rows c.walk-walked.ensures.0 c.walk-walked.ensures.1
    (λ i. (c.type_inv.sums i).fits) c.store_state.ensures c.told.ensures
