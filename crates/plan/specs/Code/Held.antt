-- The plan that the code's lists hold.
use Rattle.std.specs.Prelude.{ℕ}
use Rattle.plan.specs.Groups.{Plan, plan_of}
use Rattle.plan.specs.declared.lists.Plan as code

abbrev pub held : (n : ℕ) → code.Plan → Plan
held n p = plan_of n p.order.now p.groups.now p.count
