-- `stop_of`: none, or the pick's index.
use mathlib.Core.Path.{◌≡◌, refl}
use Rattle.std.proofs.Common.{None, arith}
use Rattle.steps.proofs.TableSteps.{not_told}
use Rattle.calls.proofs.Performing.{place_none, place-some}
use Rattle.calls.proofs.stop_of.Goals as goal

pub returns-in_err-kind : goal.returns-in_err-kind
returns-in_err-kind c =
    let up : c.from_residual.result ≡ None = grind arith in
    rw (up, c.in_err-kind.was) (refl, place_none 0 c.args.past refl)

pub returns : goal.returns
returns c = rw c.in_ok-kind.was (refl, place-some _ _ (not_told c.in_ok-kind.kind))
