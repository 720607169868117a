-- `admit` meets its contract, test by test.
use mathlib.Core.Path.{◌≡◌, refl, sym, ap}
use mathlib.Core.Bool.{cond, not}
use native.Mathlib.Omega.{arith}
use Rattle.base.proofs.Booleans.{fails, holds}
use Rattle.rack.specs.Code.Taken.{refusal_in}
use Rattle.rack.proofs.Refused.{not-prepared, not-whole, other-rows, by_counts}
use Rattle.rack.proofs.admit.Goals as goal
use Rattle.rack.proofs.admit.Goals.{After-is_fine}

pub returns-then-not-is_prepared : goal.returns-then-not-is_prepared
returns-then-not-is_prepared c = (not-prepared _ _ _ (fails c.is_prepared.ensures (ap not c.if-not-is_prepared.true)), refl)

pub returns-then-run-ne-STATE_BYTES : goal.returns-then-run-ne-STATE_BYTES
returns-then-run-ne-STATE_BYTES c = (not-whole _ _ _ (holds c.is_prepared.ensures (ap not c.if-not-is_prepared.false)) c.if-run-ne-STATE_BYTES.true, refl)

pub returns-then-run-sizes : goal.returns-then-run-sizes
returns-then-run-sizes c =
    let sizes = c.sizes_of-sizes.ensures in
    (other-rows _ _ _ sizes.prepared c.if-run-ne-STATE_BYTES.false (λ q. omega (arith, c.if-run-sizes.true, q, sizes.rows_are)), refl)

-- the counts say whether every call is refused
counts : (c : After-is_fine) → cond c.is_fine.result 0 11 ≡ refusal_in c.args.list.now c.args.run.now.state.now c.args.run.now.sums.now
counts c =
    let sizes = c.sizes_of-sizes.ensures in
    let whole = c.if-run-ne-STATE_BYTES.false in
    by_counts _ _ _ sizes.prepared whole (omega (arith, c.if-run-sizes.false, sizes.rows_are)) (c.load_state-before.ensures whole).made c.is_fine.result c.is_fine.ensures

pub returns-then-not-is_fine : goal.returns-then-not-is_fine
returns-then-not-is_fine c = (rw (fails refl (ap not c.if-not-is_fine.true)) at (counts (goal.at.returns-then-not-is_fine c).After-is_fine), refl)

pub returns : goal.returns
returns c =
    let free = rw (holds refl (ap not c.if-not-is_fine.false)) at (counts (goal.at.returns c).After-is_fine) in
    let whole = c.if-run-ne-STATE_BYTES.false in
    record { free = sym free; head = c.sizes_of-sizes.ensures; rows = sym c.if-run-sizes.false; whole = whole; state-is = c.load_state-before.ensures whole }
