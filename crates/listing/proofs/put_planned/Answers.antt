use mathlib.Core.Path.{sym}
use native.Mathlib.Omega.{arith}
use lib.ListN.{replicate, length-replicate}
use Prim.Native.Nat.{ℕ}
use Rattle.base.specs.Verdicts.{number_of}
use Rattle.matrix.specs.Held.{held}
use Rattle.matrix.proofs.Matrix.{matrix_facts}
use Rattle.matrix.specs.Limits.{max_rows}
use Rattle.plan.specs.Code.Room.{max_fields}
use Rattle.writer.proofs.puts.Putting.{put_as}
use Rattle.listing.proofs.PlanLists.{Left, planned-refused, planned-accepted}
use Rattle.listing.proofs.put_planned.Goals as goal

pub put_plan-requires : goal.put_plan-requires
put_plan-requires c =
    let m = held c.args.m.now in
    let e = c.in-Ok.ensures in
    let left : Left m c.args.workers c.args.p c.in-Ok.count c.plan.new.order c.plan.new.groups = planned-accepted m c.args.workers c.args.p c.requires.0 (replicate max_rows 0) (replicate max_fields 0) (length-replicate {A = ℕ} max_rows 0) (length-replicate {A = ℕ} max_fields 0) c.in-Ok.count
    e.reply _ _ e.lent_order e.lent_groups in
    let rows = (matrix_facts m c.requires.0).few in
    let count = left.few in
    (omega (arith, c.plan.auto.order, length-replicate {A = ℕ} max_rows 0), omega arith, omega (arith, c.plan.auto.groups, length-replicate {A = ℕ} max_fields 0), omega (arith, c.requires.1))

pub returns-in-Err : goal.returns-in-Err
returns-in-Err c =
    let r = c.in-Err.refusal in
    put_as
    (sym (planned-refused (held c.args.m.now) c.args.workers c.args.p c.requires.0 (replicate max_rows 0) (replicate max_fields 0) (length-replicate {A = ℕ} max_rows 0) (length-replicate {A = ℕ} max_fields 0) (number_of r.kind) r.place c.in-Err.ensures.reply))
    c.put_refusal.ensures

pub returns-in-Ok : goal.returns-in-Ok
returns-in-Ok c =
    let m = held c.args.m.now in
    let e = c.in-Ok.ensures in
    let left : Left m c.args.workers c.args.p c.in-Ok.count c.plan.new.order c.plan.new.groups = planned-accepted m c.args.workers c.args.p c.requires.0 (replicate max_rows 0) (replicate max_fields 0) (length-replicate {A = ℕ} max_rows 0) (length-replicate {A = ℕ} max_fields 0) c.in-Ok.count
    e.reply _ _ e.lent_order e.lent_groups in
    put_as (sym left.listed) c.put_plan.ensures
