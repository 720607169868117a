-- The room for the groups is cut to what a plan can need; a refusal leaves them as they were.
use mathlib.Core.Path.{◌≡◌, refl, sym, ◌∙◌}
use mathlib.Core.List.{map}
use Prim.Native.Nat.{◌*◌}
use native.Mathlib.Omega.{arith}
use lib.ListN.{length, replicate}
use lib.Seq.{length-take-le}
use Rattle.std.proofs.Common.{Err}
use Rattle.base.specs.Replies.{refused}
use Rattle.base.specs.Verdicts.{number_of}
use Rattle.base.proofs.Replies.{lent-refused}
use Rattle.matrix.specs.Held.{held}
use Rattle.plan.specs.Groups.{width}
use Rattle.plan.specs.Code.Room.{max_fields}
use Rattle.race.specs.Planner.{plan, plan_reply}
use Rattle.groups.specs.Structs.{of_group}
use Rattle.groups.proofs.Gathering.{gathered_front}
use Rattle.groups.proofs.PlanReply.{told, fits, left}
use Rattle.groups.proofs.plan.Goals as goal

pub returns-in_err-count : goal.returns-in_err-count
returns-in_err-count c =
    let a = c.args in
    let m = held a.m.now in
    let r = c.in_err-count.field-0.0 in
    let t = told m a.workers a.p a.k (length a.order.now) (length a.groups.now) (width * c.min-size.result) (omega (arith, c.min-size.ensures)) (replicate max_fields 0) refl in
    let up : c.from_residual.result ≡ Err r = grind arith in
    let is : refused (number_of r.kind) r.place ≡ plan_reply m a.workers a.p a.k (length a.order.now) (width * length a.groups.now) = c.in_err-count.ensures.reply ∙ t in
    record {
      reply = rw up is;
      lent_order = rw t at c.in_err-count.ensures.lent_order;
      lent_groups = sym (lent-refused (map of_group (plan m a.workers a.p a.k).groups) a.groups.now _ (number_of r.kind) r.place (sym is));
    }

pub gather-requires : goal.gather-requires
gather-requires c =
    let a = c.args in
    let f = fits (held a.m.now) a.workers a.p a.k (length a.order.now) (length a.groups.now) (width * c.min-size.result) (omega (arith, c.min-size.ensures)) (replicate max_fields 0) refl c.plan.new.groups c.in_ok-count.count c.in_ok-count.ensures.reply in
    rw (length-take-le c.in_ok-count.count a.groups.now f.1) f.0

pub slice_bounds-gather-end-2 : goal.slice_bounds-gather-end-2
slice_bounds-gather-end-2 c =
    let a = c.args in
    let f = fits (held a.m.now) a.workers a.p a.k (length a.order.now) (length a.groups.now) (width * c.min-size.result) (omega (arith, c.min-size.ensures)) (replicate max_fields 0) refl c.plan.new.groups c.in_ok-count.count c.in_ok-count.ensures.reply in
    sym (length-take-le c.in_ok-count.count a.groups.now f.1)

pub slice_bounds-gather-end : goal.slice_bounds-gather-end
slice_bounds-gather-end c =
    let a = c.args in
    (fits (held a.m.now) a.workers a.p a.k (length a.order.now) (length a.groups.now) (width * c.min-size.result) (omega (arith, c.min-size.ensures)) (replicate max_fields 0) refl c.plan.new.groups c.in_ok-count.count c.in_ok-count.ensures.reply).1

pub returns : goal.returns
returns c =
    let a = c.args in
    let m = held a.m.now in
    let t = told m a.workers a.p a.k (length a.order.now) (length a.groups.now) (width * c.min-size.result) (omega (arith, c.min-size.ensures)) (replicate max_fields 0) refl in
    record {
      reply = c.in_ok-count.ensures.reply ∙ t;
      lent_order = rw t at c.in_ok-count.ensures.lent_order;
      lent_groups =
          gathered_front c.in_ok-count.count _ a.groups.now
          (fits m a.workers a.p a.k (length a.order.now) (length a.groups.now) (width * c.min-size.result) (omega (arith, c.min-size.ensures)) (replicate max_fields 0) refl c.plan.new.groups c.in_ok-count.count c.in_ok-count.ensures.reply).1
          c.gather.ensures
          ∙ left m a.workers a.p a.k (length a.order.now) (length a.groups.now) (width * c.min-size.result) (omega (arith, c.min-size.ensures)) (replicate max_fields 0) refl c.plan.new.groups c.in_ok-count.count c.in_ok-count.ensures.reply a.groups.now c.in_ok-count.ensures.lent_groups;
    }
