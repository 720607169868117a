-- The group planner takes the rows by their numbers, and a leaf is sorted after it.
use mathlib.Core.Path.{◌≡◌, ap, ◌∙◌}
use Prim.Native.Nat.{◌≤◌}
use native.Mathlib.Omega.{arith}
use Rattle.base.specs.Lists.{range}
use Rattle.matrix.specs.Limits.{max_rows}
use Rattle.plan.specs.Sound.{max_distance}
use Rattle.extents.specs.Code.Scans.{policy_of}
use Rattle.cycle.specs.Code.Records.{Holds}
use Rattle.planner.proofs.WholePlan.{numbered_plan, whole_task, leaf-held, split-held}
use Rattle.planner.proofs.whole.plan_rows.Goals as goal

pub number-requires : goal.number-requires
number-requires c = omega (arith, c.requires.0, c.args.graph.now.rows.small)

pub overflow_cast-group : goal.overflow_cast-group
overflow_cast-group c = omega (arith, c.args.graph.now.rows.small)

pub plan_group-count-requires : goal.plan_group-count-requires
plan_group-count-requires c =
    let numbers : c.number.new.order ≡ range 0 c.args.graph.now.m.n = c.number.ensures ∙ ap (range 0) c.requires.0 in
    let few : c.args.graph.now.m.n ≤ max_rows = c.args.graph.now.rows.small in
    (rw numbers (whole_task _ c.args.workers c.args.records.now c.requires.2 (omega arith)), few, few)

pub sort_rows-requires : goal.sort_rows-requires
sort_rows-requires c =
    let a = c.args in
    let g = a.graph.now in
    let far : (1 ≤ a.policy.reach) × (a.policy.reach ≤ max_distance) = (a.policy.some, c.requires.1) in
    let numbers : c.number.new.order ≡ range 0 g.m.n = c.number.ensures ∙ ap (range 0) c.requires.0 in
    let held : Holds (numbered_plan g (policy_of a.policy) far a.workers) 0 a.records.now c.plan_group-count.new.order c.plan_group-count.new.records c.plan_group-count.result = rw numbers at c.plan_group-count.ensures in
    (leaf-held g (policy_of a.policy) far a.workers held c.if-count-eq1.true).0

pub returns-then-count-eq1 : goal.returns-then-count-eq1
returns-then-count-eq1 c =
    let a = c.args in
    let g = a.graph.now in
    let far : (1 ≤ a.policy.reach) × (a.policy.reach ≤ max_distance) = (a.policy.some, c.requires.1) in
    let numbers : c.number.new.order ≡ range 0 g.m.n = c.number.ensures ∙ ap (range 0) c.requires.0 in
    let held : Holds (numbered_plan g (policy_of a.policy) far a.workers) 0 a.records.now c.plan_group-count.new.order c.plan_group-count.new.records c.plan_group-count.result = rw numbers at c.plan_group-count.ensures in
    (leaf-held g (policy_of a.policy) far a.workers held c.if-count-eq1.true).1 c.sort_rows.new.order c.sort_rows.ensures

pub returns-else-count-eq1 : goal.returns-else-count-eq1
returns-else-count-eq1 c =
    let a = c.args in
    let g = a.graph.now in
    let far : (1 ≤ a.policy.reach) × (a.policy.reach ≤ max_distance) = (a.policy.some, c.requires.1) in
    let numbers : c.number.new.order ≡ range 0 g.m.n = c.number.ensures ∙ ap (range 0) c.requires.0 in
    let held : Holds (numbered_plan g (policy_of a.policy) far a.workers) 0 a.records.now c.plan_group-count.new.order c.plan_group-count.new.records c.plan_group-count.result = rw numbers at c.plan_group-count.ensures in
    split-held g (policy_of a.policy) far a.workers held c.if-count-eq1.false
