-- `renew` meets its contract: between two stops nobody's wait changes.
use mathlib.Core.Path.{refl, ap, ◌∙◌}
use mathlib.Core.Bool.{true≢false}
use lib.ListN.{length}
use Rattle.run.proofs.Onward.{onward-length}
use Rattle.waits.proofs.Kept.{kept}
use Rattle.waits.proofs.blocked.Blocked.renew.Goals as goal

-- the groups are as they were
pub returns-then-made-w : goal.returns-then-made-w
returns-then-made-w c = (λ before e s. rw e (kept c.args.w c.requires (rw e at c.if-made-w.true) s), λ q. refl)

-- .. or are found anew
pub returns : goal.returns
returns c = (
  λ before e s. record { long = ap length e ∙ onward-length before _ ∙ s.long; blocked = c.find.ensures.0; ahead = c.find.ensures.1 },
  λ q. absurd (true≢false q),
)
