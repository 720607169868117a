-- `enter` meets its contract.
use mathlib.Core.Path.{◌≡◌, refl, sym, ◌∙◌}
use Prim.Native.Nat.{◌*◌, ◌<◌}
use native.Mathlib.Omega.{arith}
use lib.ListN.{get_or}
use borrow.Author.Tests.{le-ltb}
use Rattle.std.proofs.Common.{Err}
use Rattle.run.specs.Machine.{reason}
use Rattle.tables.specs.Code.Laid.{updates_in}
use Rattle.steps.specs.Code.Steps.{told}
use Rattle.steps.proofs.TableSteps.{not_told, reason-none}
use Rattle.steps.proofs.UpdatesAtHand.{put_at_hand, put_known, target-low}
use Rattle.steps.proofs.enter.Goals as goal

-- no worker of the plan
pub returns-then-work-w : goal.returns-then-work-w
unfolding reason
returns-then-work-w c = record { told = rw (le-ltb _ _ c.if-work-w.true); known = λ q. absurd (omega arith); hand = c.requires }

-- its update is at hand
pub returns-then-hands-w-lt-NONE : goal.returns-then-hands-w-lt-NONE
returns-then-hands-w-lt-NONE c =
    let few = c.args.work.now.course.few in
    let worker : c.args.w < 16 = omega (arith, c.if-work-w.false, few) in
    record { told = sym (c.requires.is c.args.w worker c.if-hands-w-lt-NONE.true).free; known = λ q. c.if-hands-w-lt-NONE.true; hand = c.requires }

-- the counts refuse it
pub returns-in_err-refusal : goal.returns-in_err-refusal
returns-in_err-refusal c =
    let up : c.from_residual.result ≡ Err c.in_err-refusal.field-0.0 = grind arith in
    let number : told c.from_residual.result ≡ told c.refusal.result = rw (up, c.in_err-refusal.was) refl in
    record { told = number ∙ c.refusal.ensures; known = λ q. absurd (not_told _ (rw up at q)); hand = c.requires }

pub look_up-requires : goal.look_up-requires
look_up-requires c =
    let a = c.args in
    let k = a.work.now.course in
    let few = k.few in
    let worker : a.w < 16 = omega (arith, c.if-work-w.false, few) in
    (worker, (reason-none a.w k.workers (get_or a.made.now a.w 0) (2 * updates_in k.tables.first.now a.w) _ (sym c.in_ok-refusal.ensures)).1)

pub returns : goal.returns
returns c =
    let a = c.args in
    let k = a.work.now in
    let t = k.course.tables in
    let few = k.course.few in
    let worker : a.w < 16 = omega (arith, c.if-work-w.false, few) in
    let low = target-low k.course.workers t.first.now t.row.now t.begins.now k.entries.parts.now t.leaves.now a.blocks.now k.displaced.now k.entries.at.now k.entries.beside.now k.placed a.made.now a.w in
    let free = c.in_ok-refusal.ensures in
    rw (c.look_up.ensures.targets, c.look_up.ensures.adds)
    (record {
      told = free;
      known = λ q. put_known a.w worker c.requires (omega (arith, low, k.placed.bounded.rows_few));
      hand = put_at_hand a.w worker c.requires (sym free);
    })
