use mathlib.Core.Bool.{not}
use mathlib.Core.Path.{◌≡◌, refl, ap}
use native.Mathlib.Omega.{arith}
use lib.ListN.{length, get_or}
use borrow.Author.Rules.{rules}
use Rattle.base.proofs.Booleans.{fails, holds}
use Rattle.steps.specs.Code.Steps.{state_with, told}
use Rattle.steps.proofs.TableSteps.{pick_worker, not_told}
use Rattle.machine.proofs.RunTurns.{Picked, entered-refused, entered-worker, entered-ready, entered-made, running_start, running_none, running_halt, running_past, running_renewed, running_on}
use Rattle.machine.proofs.state.State.walk.Goals as goal
use Rattle.machine.proofs.state.State.walk.Goals.{in-Ok, in-Err, in-Ok-step+then-renew, in-Ok-step+else-renew, in-Err-step+else-not-passes}

pub loop-k-init : goal.loop-k-init
loop-k-init c =
    let made_long : length c.args.self.made ≡ 16 = let g = c.well_formed in search rules in (
      search rules,
      search rules,
      refl,
      rw c.empty-hands.ensures
          (running_start (record { long = made_long; blocked = rw (c.records-records.ensures.0, c.records-records.ensures.1) at c.find.ensures.0; ahead = rw (c.records-records.ensures.0, c.records-records.ensures.1) at c.find.ensures.1 }) (search rules)),
    )

-- ---- a pick
pub enter-requires : goal.enter-requires
enter-requires c = c.loop-k.invariant.3.hand

pub access-step-requires : goal.access-step-requires
access-step-requires c =
    let r = c.loop-k.invariant.3 in
    let free : told c.enter.result ≡ 0 = rw c.in-Ok.is refl in
    let h = entered-ready r c.enter.ensures free in
    (entered-worker r c.enter.ensures free, h.0, omega (arith, h.1, c.loop-k.invariant.2, c.requires.0))

pub renew-requires : goal.renew-requires
renew-requires c =
    let picked : Picked c.args.work.now c.loop-k.blocked.blocks
    (state_with c.loop-k.made c.loop-k.held c.loop-k.sums) (get_or c.args.schedule.now c.loop-k.k 0) (told c.match-enter.step)
    (state_with c.match-enter.made c.match-enter.held c.match-enter.sums) c.match-enter.hands.targets c.match-enter.hands.adds = elim c.match-enter.branch [
      | in-Ok w ↦ rw (w.sums-is, w.made-is, w.held-is, w.hands-is, w.step-is) (entered-made c.loop-k.invariant.3 c.enter.ensures (rw w.in-Ok.is refl) w.access-step.ensures)
      | in-Err w ↦ rw (w.sums-is, w.made-is, w.held-is, w.hands-is, w.step-is) (rw w.in-Err.is at (entered-refused c.loop-k.invariant.3 c.enter.ensures (rw w.in-Err.is (not_told w.in-Err.kind))))
    ] in
    let k = c.args.work.now.course in
    pick_worker k.tables.first.now k.tables.row.now k.tables.leaves.now c.loop-k.blocked.blocks k.few picked.made (rw c.in-Ok-step.is refl)

-- ---- a pick that is refused
pub returns-then-not-passes : goal.returns-then-not-passes
returns-then-not-passes c =
    let picked : Picked c.args.work.now c.loop-k.blocked.blocks
    (state_with c.loop-k.made c.loop-k.held c.loop-k.sums) (get_or c.args.schedule.now c.loop-k.k 0) (told c.match-enter.step)
    (state_with c.match-enter.made c.match-enter.held c.match-enter.sums) c.match-enter.hands.targets c.match-enter.hands.adds = elim c.match-enter.branch [
      | in-Ok w ↦ rw (w.sums-is, w.made-is, w.held-is, w.hands-is, w.step-is) (entered-made c.loop-k.invariant.3 c.enter.ensures (rw w.in-Ok.is refl) w.access-step.ensures)
      | in-Err w ↦ rw (w.sums-is, w.made-is, w.held-is, w.hands-is, w.step-is) (rw w.in-Err.is at (entered-refused c.loop-k.invariant.3 c.enter.ensures (rw w.in-Err.is (not_told w.in-Err.kind))))
    ] in
    let halted = rw c.in-Err-step.is at picked in
    running_halt c.loop-k.invariant.3 c.requires.1 c.requires.2 c.loop-k-test.true halted (not_told c.in-Err-step.kind) (fails c.passes.ensures (ap not c.if-not-passes.true))

-- ---- the next turn
pub loop-k-preserved : goal.loop-k-preserved
loop-k-preserved c =
    let picked : Picked c.args.work.now c.loop-k.blocked.blocks
    (state_with c.loop-k.made c.loop-k.held c.loop-k.sums) (get_or c.args.schedule.now c.loop-k.k 0) (told c.match-enter.step)
    (state_with c.match-enter.made c.match-enter.held c.match-enter.sums) c.match-enter.hands.targets c.match-enter.hands.adds = elim c.match-enter.branch [
      | in-Ok w ↦ rw (w.sums-is, w.made-is, w.held-is, w.hands-is, w.step-is) (entered-made c.loop-k.invariant.3 c.enter.ensures (rw w.in-Ok.is refl) w.access-step.ensures)
      | in-Err w ↦ rw (w.sums-is, w.made-is, w.held-is, w.hands-is, w.step-is) (rw w.in-Err.is at (entered-refused c.loop-k.invariant.3 c.enter.ensures (rw w.in-Err.is (not_told w.in-Err.kind))))
    ] in
    let sums-long : length c.match-enter.sums ≡ length c.args.sums.now = search rules in
    let r = c.loop-k.invariant.3 in
    let test = c.loop-k-test.true in
    elim c.match-step.branch [
      | in-Ok-step+then-renew w ↦ rw (w.blocked-is, w.hands-is, w.taken-is, w.clear.ensures.0, w.clear.ensures.1)
          (omega (arith, test), omega (arith, c.loop-k.invariant.1), sums-long, running_renewed r c.requires.1 c.requires.2 test picked (rw w.in-Ok-step.is refl) (rw (c.records-records.ensures.0, c.records-records.ensures.1) at w.renew.ensures.0))
      | in-Ok-step+else-renew w ↦ rw (w.blocked-is, w.hands-is, w.taken-is)
          (omega (arith, test), omega (arith, c.loop-k.invariant.1), sums-long, running_on r c.requires.1 c.requires.2 test picked (rw w.in-Ok-step.is refl) (rw (c.records-records.ensures.0, c.records-records.ensures.1) at w.renew.ensures.0) (w.renew.ensures.1 w.if-renew.false))
      | in-Err-step+else-not-passes w ↦
          rw (w.blocked-is, w.hands-is, w.taken-is)
          (omega (arith, test), omega (arith, c.loop-k.invariant.1), sums-long, running_past r c.requires.1 c.requires.2 test picked (rw w.in-Err-step.is (not_told w.in-Err-step.kind)) (rw w.in-Err-step.is (holds w.passes.ensures (ap not w.if-not-passes.false))))
    ]

-- ---- after the loop
pub returns : goal.returns
returns c = running_none c.loop-k.invariant.3 (search rules)
