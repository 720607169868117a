-- `planning::plan_of`: by the reply.
use mathlib.Core.Path.{◌≡◌, refl, sym, ap, ◌∙◌}
use Prim.Native.Nat.{◌/◌, min}
use native.Mathlib.Omega.{arith}
use lib.ListN.{length, drop, length-take}
use Rattle.std.proofs.Common.{Err}
use Rattle.race.proofs.Rooms.{planned}
use Rattle.matrix.specs.Held.{held}
use Rattle.office.proofs.Plans.{same-reply, plan-refused, plan-held, plan-stored}
use Rattle.office.proofs.planning.plan_of.Goals as goal

pub returns-in_err-count : goal.returns-in_err-count
returns-in_err-count c =
    let a = c.args in
    let order_room = c.min-order_room.ensures ∙ ap (min (length a.order_bytes.now / 4)) (sym c.told-order) in
    let groups_room = c.min-groups_room.ensures ∙ ap (min (length a.group_bytes.now / 4)) (sym c.told-groups) in
    let same = same-reply (held a.m.now) a.wish.workers a.wish.p a.wish.k a.order.now a.groups.now a.order_bytes.now a.group_bytes.now (omega arith, omega arith) order_room groups_room in
    let up : c.from_residual.result ≡ Err c.in_err-count.field-0.0 = grind arith in
    rw up (plan-refused same c.in_err-count.ensures.reply refl)

pub shared_ref_as_front-store : goal.shared_ref_as_front-store
shared_ref_as_front-store c =
    let a = c.args in
    let made = planned (held a.m.now) a.wish.workers a.wish.p a.wish.k _ _ c.in_ok-count.count (sym c.in_ok-count.ensures.reply) in
    omega (arith, made.order-room, length-take c.min-order_room.result a.order.now)

pub shared_ref_as_front-store-2 : goal.shared_ref_as_front-store-2
shared_ref_as_front-store-2 c =
    let a = c.args in
    let made = planned (held a.m.now) a.wish.workers a.wish.p a.wish.k _ _ c.in_ok-count.count (sym c.in_ok-count.ensures.reply) in
    omega (arith, made.groups-room, length-take c.min-groups_room.result a.groups.now)

pub returns : goal.returns
returns c =
    let a = c.args in
    let order_room = c.min-order_room.ensures ∙ ap (min (length a.order_bytes.now / 4)) (sym c.told-order) in
    let groups_room = c.min-groups_room.ensures ∙ ap (min (length a.group_bytes.now / 4)) (sym c.told-groups) in
    let same = same-reply (held a.m.now) a.wish.workers a.wish.p a.wish.k a.order.now a.groups.now a.order_bytes.now a.group_bytes.now (omega arith, omega arith) order_room groups_room in
    let e = c.in_ok-count.ensures in
    let kept = plan-held same e.reply _ _ e.lent_order e.lent_groups (drop c.min-order_room.result a.order.now) (drop c.min-groups_room.result a.groups.now) in
    plan-stored kept refl c.store.ensures c.store-2.ensures
