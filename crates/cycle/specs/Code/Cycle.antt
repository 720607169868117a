-- What the two planners require of each other: for the contracts of src/lib.rt. `adj v` lists the rows adjacent to
-- row v, and there are n rows.
use Rattle.std.specs.Prelude.{◌≡◌, List, map, ℕ, ◌+◌, ◌-◌, ◌*◌, ◌≤◌, ◌<◌, length}
use Rattle.base.specs.Lists.{sum}
use Rattle.matrix.specs.Limits.{max_rows}
use Rattle.levels.specs.Code.Group.{Proper}
use Rattle.levels.specs.Code.Graph.{adj}
use Rattle.plan.specs.Groups.{Plan, red, blue, width, group_of}
use Rattle.plan.specs.Sound.{max_workers, max_depth, max_groups}
use Rattle.race.specs.Loads.{load_of}
use Rattle.race.specs.Planner.{pairs, plan_pairs, plan_group}
use Rattle.extents.specs.Extents.{Policy}
use Rattle.extents.specs.Code.Scans.{policy_of, Scale}
use Rattle.loads.specs.Code.Stretches.{Levelled}
use Rattle.plan.specs.declared.fields.Group.{Group}
use Rattle.cycle.specs.declared.setting.Setting.{Setting}
use Rattle.cycle.specs.declared.Parent.{Parent}
use Rattle.cycle.specs.declared.Left.{Left}
use Rattle.cycle.specs.declared.Pair.{Pair}

-- the pair's groups, and what is left after it, with the next record's index
abbrev pub red_group : Parent → Left → Pair → Group
red_group up left pair = record { start = up.start + left.done; length = pair.reds; first = left.first; workers = pair.workers; colour = red; parent = up.index; depth = up.depth + 1 }

abbrev pub blue_group : Parent → Left → Pair → Group
blue_group up left pair = record {
  start = up.start + left.done + pair.reds;
  length = pair.rows - pair.reds;
  first = left.first;
  workers = pair.workers;
  colour = blue;
  parent = up.index;
  depth = up.depth + 1;
}

abbrev pub left_after : Left → Pair → (index : ℕ) → Left
left_after left pair index = record { done = left.done + pair.rows; first = left.first + pair.workers; free = left.free - pair.workers; index = index }

-- the numbers of a pair are small: its rows lie in the order, its workers are free, and among the plan's, and its
-- parent is not the deepest
pub record Fits (up : Parent) (left : Left) (pair : Pair) : Type 0 where
  pub parts : pair.reds ≤ pair.rows
  pub inside : up.start + left.done + pair.rows ≤ max_rows
  pub some : pair.workers ≤ left.free
  pub workers : left.first + left.free ≤ max_workers
  pub shallow : up.depth < max_depth

-- the plan of the pairs that are left: levels ls and the workers that are free
abbrev pub pairs_plan : (adj : ℕ → List ℕ) (n : ℕ) (policy : Policy) (stages : ℕ) (up : Parent) (left : Left) → List (List ℕ) → Plan
pairs_plan adj n policy stages up left ls =
    plan_pairs (plan_group adj n policy stages) up.index (up.depth + 1) (up.start + left.done) left.first left.index
    (pairs adj (length ls) up.workers up.load policy left.free ls)

-- the plan of a group whose rows stand in a stretch
abbrev pub group_plan : Setting → (stages index : ℕ) → Group → List ℕ → Plan
group_plan s stages index g stretch = plan_group (adj s.ranked.graph) s.ranked.graph.m.n (policy_of s.policy) stages index (group_of g) stretch

-- a stretch that a group's planner takes: the group's rows, its workers, and room for the records of its plan
pub record GroupTask (s : Setting) (stages index : ℕ) (stretch records : List ℕ) (g : Group) : Type 0 where
  pub proper : Proper s.ranked.graph.m.n stretch
  pub size : g.length ≡ length stretch
  pub inside : g.start + length stretch ≤ max_rows
  pub workers : g.first + g.workers ≤ max_workers
  pub shallow : g.depth + stages ≤ max_depth
  pub few : length records ≤ width * max_groups
  pub room : width * (index + length (group_plan s stages index g stretch).groups) ≤ length records

-- a stretch that a pair's planner takes: the levels that are left, their loads, the workers that are free, and room for
-- the records of their plan
pub record PairsTask (s : Setting) (stages : ℕ) (stretch ends loads records : List ℕ) (up : Parent) (left : Left) (ls : List (List ℕ)) : Type 0 where
  pub proper : Proper s.ranked.graph.m.n stretch
  pub levelled : Levelled left.done ends stretch ls
  pub loads_are : loads ≡ map (load_of (adj s.ranked.graph)) ls
  pub scale : Scale up.workers up.load
  pub within : sum loads ≤ up.load
  pub levels : 2 * s.policy.reach ≤ length ls
  pub free : 1 ≤ left.free
  pub inside : up.start + left.done + length stretch ≤ max_rows
  pub workers : left.first + left.free ≤ max_workers
  pub shallow : up.depth + 1 + stages ≤ max_depth
  pub few : length records ≤ width * max_groups
  pub room : width * (left.index + length (pairs_plan (adj s.ranked.graph) s.ranked.graph.m.n (policy_of s.policy) stages up left ls).groups) ≤ length records
