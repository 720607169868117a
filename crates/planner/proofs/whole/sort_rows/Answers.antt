use mathlib.Core.Path.{refl}
use native.Mathlib.Omega.{arith}
use Rattle.base.proofs.Lists.{get_d_zeros}
use Rattle.levels.specs.Code.Group.{Proper}
use Rattle.levels.proofs.Proper.{proper-range}
use Rattle.sort.specs.Code.Sort.{max_levels}
use Rattle.sort.proofs.LevelSort.{order-short}
use Rattle.planner.proofs.WholePlan.{sorted_is}
use Rattle.planner.proofs.whole.sort_rows.Goals as goal

pub level_sort-requires : goal.level_sort-requires
level_sort-requires c =
    let proper : Proper c.args.ranked.now.graph.m.n c.args.order.now = rw c.requires (proper-range c.args.ranked.now.graph.m.n) in
    let short = order-short c.args.ranked.now.graph proper in
    (proper, record { long = refl; zero = get_d_zeros max_levels }, c.args.policy.some, omega (arith, short), omega (arith, short))

pub returns : goal.returns
returns c = sorted_is (rw c.requires at c.level_sort.ensures)
