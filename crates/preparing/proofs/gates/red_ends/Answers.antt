use mathlib.Core.Path.{ap, ◌∙◌}
use Prim.Native.Nat.{◌-◌}
use native.Mathlib.Omega.{arith}
use lib.ListN.{get_or}
use Rattle.plan.specs.Groups.{group_of}
use Rattle.preparing.specs.Code.Gates.{last_if}
use Rattle.preparing.proofs.Passes.{backward_none, backward_next, backward_all}
use Rattle.preparing.proofs.gates.red_ends.Goals as goal

pub loop-i-init : goal.loop-i-init
loop-i-init c =
    let a = c.args in
    (c.requires.some, backward_none _ a.groups.now a.ends.now a.v)

pub loop-i-preserved : goal.loop-i-preserved
loop-i-preserved c =
    let a = c.args in (
      omega arith,
      backward_next _ a.groups.now a.ends.now a.v c.requires c.loop-i.i c.loop-i-test.true c.loop-i.auto.i (group_of c.get-g.result) c.get-g.ensures
          c.loop-i.parents c.loop-i.lasts c.loop-i.reds c.last_if-last.result c.red_last.result c.max.result c.max-in-loop-i.result
          (c.last_if-last.ensures ∙ ap (last_if (get_or c.loop-i.parents (c.loop-i.i - 1) 0) (get_or c.loop-i.lasts (c.loop-i.i - 1) 0)) c.own_end.ensures) c.red_last.ensures c.max.ensures c.max-in-loop-i.ensures c.loop-i.invariant.1,
    )

pub returns : goal.returns
returns c =
    let a = c.args in
    backward_all _ a.groups.now a.ends.now a.v c.loop-i.i (omega arith) c.loop-i.parents c.loop-i.lasts c.loop-i.reds c.loop-i.invariant.1
