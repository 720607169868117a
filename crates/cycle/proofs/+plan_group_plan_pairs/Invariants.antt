-- The measures of the cycle.
use Prim.Native.Nat.{◌+◌, ◌*◌}
use lib.ListN.{length}
use Rattle.sort.specs.Code.Sort.{max_levels}
use Rattle.cycle.proofs.+plan_group_plan_pairs.Given as goal

-- stages left
abbrev pub decreases-plan_group : goal.decreases-plan_group
decreases-plan_group l = l.task.stages * (max_levels + 2)

-- stages left, then levels left
abbrev pub decreases-plan_pairs : goal.decreases-plan_pairs
decreases-plan_pairs l = l.rest.stages * (max_levels + 2) + length l.levels.now.ends.now + 1
