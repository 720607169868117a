-- `store_picks` meets its contract, by the answer.
use mathlib.Core.Path.{◌≡◌, refl, sym}
use mathlib.Core.List.{[]}
use lib.Seq.{length-take-le}
use Rattle.std.proofs.Common.{Ok}
use Rattle.calls.specs.Performed.{as_answer}
use Rattle.calls.specs.declared.Response.TheVariants.{Picked}
use Rattle.answers.proofs.stored.store_picks.Goals as goal
use Rattle.answers.proofs.stored.store_picks.Goals.{In-Picked}

has : (c : In-Picked) → as_answer c.args.answer [] ≡ as_answer (Ok (Picked c.in-Picked.field-0 c.in-Picked.field-1)) []
has c = rw (c.in-Ok.is, c.in-Picked.is) refl

pub store_state-requires : goal.store_state-requires
store_state-requires c = (c.requires _ _ _ (has (goal.at.store_state-requires c).In-Picked)).0

pub slice_bounds-store-end : goal.slice_bounds-store-end
slice_bounds-store-end c =
    sym (length-take-le c.args.n c.args.new.now (c.requires _ _ _ (has (goal.at.slice_bounds-store-end c).In-Picked)).1)
