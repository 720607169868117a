-- The checks in turn, then the plan is made in two lists of its own and copied.
use mathlib.Core.Bool.{true, not}
use mathlib.Core.Path.{◌≡◌, ap, sym, ◌∙◌}
use Prim.Native.Nat.{◌*◌}
use native.Mathlib.Omega.{arith}
use lib.ListN.{length, drop, replicate}
use lib.Seq.{length-take-le, take_at}
use Rattle.base.proofs.Booleans.{holds}
use Rattle.matrix.specs.Matrix.{is_matrix}
use Rattle.matrix.specs.Limits.{max_rows}
use Rattle.matrix.specs.Held.{held}
use Rattle.plan.specs.Groups.{width}
use Rattle.race.specs.Planner.{are_parameters}
use Rattle.race.proofs.PlannedSound.{limits}
use Rattle.planner.proofs.PlanReply.{rows, count-few, refuses_groups, accepts}
use Rattle.planner.proofs.plan.Goals as goal

pub overflow_cast-result : goal.overflow_cast-result
overflow_cast-result c =
    let a = c.args in
    let is : is_matrix (held a.m.now) ≡ true = holds c.is_matrix.ensures (ap not c.if-not-is_matrix.false) in
    omega (arith, (rows (held a.m.now) a.workers a.p a.k a.order.now a.groups.now is).small)

pub invariant_of-graph : goal.invariant_of-graph
invariant_of-graph c =
    let a = c.args in
    let is : is_matrix (held a.m.now) ≡ true = holds c.is_matrix.ensures (ap not c.if-not-is_matrix.false) in
    record { rows = rows (held a.m.now) a.workers a.p a.k a.order.now a.groups.now is }

pub invariant_of-policy : goal.invariant_of-policy
invariant_of-policy c =
    let a = c.args in
    let q = limits a.workers a.p a.k (holds c.are_parameters.ensures (ap not c.if-not-are_parameters.false)) in
    record { some = q.far.0; share = q.share }

pub plan_rows-count-requires : goal.plan_rows-count-requires
plan_rows-count-requires c =
    let a = c.args in
    let m = held a.m.now in
    let is : is_matrix m ≡ true = holds c.is_matrix.ensures (ap not c.if-not-is_matrix.false) in
    let are : are_parameters a.workers a.p a.k ≡ true = holds c.are_parameters.ensures (ap not c.if-not-are_parameters.false) in
    let q = limits a.workers a.p a.k are in
    (length-take-le a.m.now.n (replicate max_rows 0) (rows m a.workers a.p a.k a.order.now a.groups.now is).small, q.far.1, q.workers)

pub returns-then-groups-made : goal.returns-then-groups-made
returns-then-groups-made c =
    let a = c.args in
    let m = held a.m.now in
    let is : is_matrix m ≡ true = holds c.is_matrix.ensures (ap not c.if-not-is_matrix.false) in
    let are : are_parameters a.workers a.p a.k ≡ true = holds c.are_parameters.ensures (ap not c.if-not-are_parameters.false) in
    let q = refuses_groups m a.workers a.p a.k a.order.now a.groups.now is are c.if-order-n.false c.plan_rows-count.ensures c.if-groups-made.true in
    record { reply = q.0; lent_order = q.1.0; lent_groups = q.1.1 }

pub slice_bounds-records-end : goal.slice_bounds-records-end
slice_bounds-records-end c =
    let a = c.args in
    let m = held a.m.now in
    let is : is_matrix m ≡ true = holds c.is_matrix.ensures (ap not c.if-not-is_matrix.false) in
    let are : are_parameters a.workers a.p a.k ≡ true = holds c.are_parameters.ensures (ap not c.if-not-are_parameters.false) in
    omega (arith, count-few m a.workers a.p a.k a.order.now a.groups.now is are c.if-order-n.false c.plan_rows-count.ensures)

pub slice_bounds-copy_from_slice-end-6 : goal.slice_bounds-copy_from_slice-end-6
slice_bounds-copy_from_slice-end-6 c =
    let a = c.args in
    let m = held a.m.now in
    let is : is_matrix m ≡ true = holds c.is_matrix.ensures (ap not c.if-not-is_matrix.false) in
    let are : are_parameters a.workers a.p a.k ≡ true = holds c.are_parameters.ensures (ap not c.if-not-are_parameters.false) in
    sym (length-take-le _ _ (omega (arith, count-few m a.workers a.p a.k a.order.now a.groups.now is are c.if-order-n.false c.plan_rows-count.ensures)))

pub copy_from_slice-requires-2 : goal.copy_from_slice-requires-2
copy_from_slice-requires-2 c =
    let a = c.args in
    let m = held a.m.now in
    let is : is_matrix m ≡ true = holds c.is_matrix.ensures (ap not c.if-not-is_matrix.false) in
    let are : are_parameters a.workers a.p a.k ≡ true = holds c.are_parameters.ensures (ap not c.if-not-are_parameters.false) in
    omega (
      arith,
      length-take-le (width * c.plan_rows-count.result) c.args.groups.now (omega (arith, c.if-groups-made.false)),
      length-take-le (width * c.plan_rows-count.result) c.plan_rows-count.new.records
          (omega (arith, count-few m a.workers a.p a.k a.order.now a.groups.now is are c.if-order-n.false c.plan_rows-count.ensures)),
    )

pub returns : goal.returns
returns c =
    let a = c.args in
    let m = held a.m.now in
    let is : is_matrix m ≡ true = holds c.is_matrix.ensures (ap not c.if-not-is_matrix.false) in
    let are : are_parameters a.workers a.p a.k ≡ true = holds c.are_parameters.ensures (ap not c.if-not-are_parameters.false) in
    let long : length c.plan_rows-count.new.order ≡ a.m.now.n = c.plan_rows-count.auto.order ∙ length-take-le a.m.now.n (replicate max_rows 0) (rows m a.workers a.p a.k a.order.now a.groups.now is).small in
    let q = accepts m a.workers a.p a.k a.order.now a.groups.now is are c.if-order-n.false c.plan_rows-count.ensures c.if-groups-made.false long
    (omega (arith, count-few m a.workers a.p a.k a.order.now a.groups.now is are c.if-order-n.false c.plan_rows-count.ensures)) in
    record {
      reply = q.0;
      lent_order = rw (c.copy_from_slice.ensures.after, take_at c.plan_rows-count.new.order (drop a.m.now.n (replicate max_rows 0)) a.m.now.n long) q.1.0;
      lent_groups = rw c.copy_from_slice-2.ensures.after q.1.1;
    }
