-- `ready` meets its contract: refused, or one bit a worker.
use native.Mathlib.Omega.{arith}
use Rattle.std.proofs.Common.{◌≡◌, Err}
use Rattle.rack.proofs.Refused.{fine, refused-so}
use Rattle.rack.proofs.Gives.{ready-low, refused-low, ready-told}
use Rattle.rack.proofs.ready.Goals as goal

pub returns-in_err-sizes : goal.returns-in_err-sizes
returns-in_err-sizes c =
    let up : c.from_residual.result ≡ Err c.in_err-sizes.field-0.0 = grind arith in
    rw up (λ zs. refused-so _ _ _ _ c.in_err-sizes.ensures _, refused-low _)

pub returns : goal.returns
returns c =
    let e = c.in_ok-sizes.ensures in
    (λ zs. ready-told (fine _ _ _ e.free) e.head e.state-is c.ready_bits-bits.ensures, ready-low _ _)
