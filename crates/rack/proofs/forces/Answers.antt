-- `forces` meets its contract: refused, too early, too short, or stored.
use mathlib.Core.Bool.{not}
use mathlib.Core.Path.{◌≡◌, sym, ap}
use native.Mathlib.Omega.{arith}
use Rattle.std.proofs.Common.{Err}
use Rattle.base.proofs.Booleans.{fails, holds}
use Rattle.rack.proofs.Refused.{fine}
use Rattle.rack.proofs.Gives.{gave_none, gave_early, gave_short, gave_forces}
use Rattle.rack.proofs.forces.Goals as goal

pub returns-in_err-sizes : goal.returns-in_err-sizes
returns-in_err-sizes c =
    let up : c.from_residual.result ≡ Err c.in_err-sizes.field-0.0 = grind arith in
    rw up (gave_none _ _ _ _ _ c.in_err-sizes.ensures)

pub returns-then-not-is_over : goal.returns-then-not-is_over
returns-then-not-is_over c =
    let e = c.in_ok-sizes.ensures in
    gave_early (fine _ _ _ e.free) e.head e.state-is _ (sym (fails c.is_over.ensures (ap not c.if-not-is_over.true)))

pub returns-then-forces-rows : goal.returns-then-forces-rows
returns-then-forces-rows c =
    let e = c.in_ok-sizes.ensures in
    gave_short (fine _ _ _ e.free) e.head e.state-is _ (sym (holds c.is_over.ensures (ap not c.if-not-is_over.false))) c.if-forces-rows.true

pub returns : goal.returns
returns c =
    let e = c.in_ok-sizes.ensures in
    gave_forces (fine _ _ _ e.free) e.head e.state-is _ (sym (holds c.is_over.ensures (ap not c.if-not-is_over.false))) c.if-forces-rows.false c.store_forces.ensures
