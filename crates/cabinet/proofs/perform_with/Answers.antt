-- `perform_with` meets its contract: the lists are decoded as far as a job can reach, and the forces are made beside the
-- lent list.
use mathlib.Core.Path.{◌≡◌, refl, sym, ap, ◌∙◌}
use mathlib.Core.List.{List}
use Prim.Native.Nat.{◌/◌}
use native.Mathlib.Omega.{arith}
use lib.IntN.{ℤ}
use lib.ListN.{length, take}
use Rattle.matrix.specs.Matrix.{Matrix}
use Rattle.words.specs.LittleEndian.{unsigned, signed}
use Rattle.lent.specs.Code.Nets.{net_of}
use Rattle.answers.proofs.RunCalls.{performed_whole}
use Rattle.answers.proofs.RunForces.{zeros, lent_on, array_long, forces_fit, performed_made}
use Rattle.cabinet.proofs.perform_with.Goals as goal

pub slice_bounds-perform-end : goal.slice_bounds-perform-end
slice_bounds-perform-end g c = sym (lent_on _ _ c.min-room.ensures)

pub slice_bounds-store_forces-end : goal.slice_bounds-store_forces-end
slice_bounds-store_forces-end g c =
    let part : List ℤ = c.perform-answer.new.forces in
    sym (array_long _ _ c.min-room.ensures part c.perform-answer.auto.forces)

pub store_forces-requires : goal.store_forces-requires
store_forces-requires g c =
    let size : length (take c.min-room.result zeros) ≡ c.min-room.result = lent_on _ _ c.min-room.ensures in
    let a = c.args in
    let n : c.decode.result.n ≡ a.job.now.net.n = ap (λ (m : Matrix). m.n) c.decode.ensures in
    let made = rw (c.decode.ensures, n) at c.perform-answer.ensures in
    forces_fit a.call a.schedule.now _ c.perform-answer.result made _ a.forces.now (omega (arith, size, c.min-room.ensures))

pub returns : goal.returns
returns g c =
    let size : length (take c.min-room.result zeros) ≡ c.min-room.result = lent_on _ _ c.min-room.ensures in
    let a = c.args in
    let j = a.job.now in
    let n : c.decode.result.n ≡ j.net.n = ap (λ (m : Matrix). m.n) c.decode.ensures in
    let plan = c.decode-3.ensures in
    let made = rw (c.decode.ensures, n, plan.count) at c.perform-answer.ensures in
    let h = performed_whole (net_of j.net) (signed 4 j.movements.now) (unsigned 4 j.plan.order.now) (unsigned 4 j.plan.groups.now)
    refl c.decode-2.ensures plan.order plan.groups
    a.call a.schedule.now (length a.forces.now / 8) (size ∙ c.min-room.ensures)
    (performed_made a.call a.schedule.now _ c.perform-answer.result made _) in
    record { made = _; answers = h.answers; leaves = h.leaves; lists = c.store_forces.ensures }
