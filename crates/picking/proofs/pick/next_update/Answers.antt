-- `next_update` meets its contract.
use mathlib.Core.Path.{ap₂, ◌∙◌}
use Prim.Native.Nat.{ℕ, ◌+◌}
use Rattle.picking.specs.Code.Reads.{update_at}
use Rattle.picking.proofs.pick.next_update.Goals as goal

pub returns : goal.returns
returns c =
    let a = c.args in
    c.update_at.ensures ∙ ap₂ (λ (x y : ℕ). update_at a.list.now a.count (x + y)) c.number_at-first.ensures.0 c.update_number.ensures.0
