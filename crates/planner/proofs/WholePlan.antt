-- The whole: its rows by their numbers, by their levels, and its plan.
use mathlib.Core.Path.{◌≡◌, refl, sym, ap, ◌∙◌}
use mathlib.Core.Logic.{◌⊎◌, inl, inr}
use mathlib.Core.List.{List, [], ◌∷◌, ◌++◌, map, append-nil}
use Prim.Native.Nat.{ℕ, ◌+◌, ◌*◌, ◌≤◌}
use native.Mathlib.Omega.{arith}
use lib.ListN.{length, take}
use lib.Seq.{drop-length}
use borrow.Author.Tests.{le-leb}
use Rattle.base.specs.Lists.{concat, range}
use Rattle.base.proofs.Lists.{length-range}
use Rattle.base.proofs.Fill.{filled}
use Rattle.levels.specs.Levels.{own_levels}
use Rattle.levels.specs.Code.Graph.{adj as adj_in}
use Rattle.levels.specs.declared.graph.Graph.{Graph}
use Rattle.sort.specs.Code.Sorted.{Sorted}
use Rattle.levels.proofs.Proper.{proper-range}
use Rattle.levels.proofs.Own.{sorted_levels}
use Rattle.levels.proofs.Rows.{rows_graph}
use Rattle.plan.specs.Groups.{Plan, width, whole, flat, group_of}
use Rattle.plan.specs.Sound.{max_workers, max_depth, max_groups, max_distance}
use Rattle.extents.specs.Code.Scans.{policy_of}
use Rattle.cycle.specs.declared.setting.Setting.{Setting}
use Rattle.extents.specs.Extents.{Policy}
use Rattle.race.specs.Planner.{leaf, plan_group, plan_rows}
use Rattle.cycle.specs.Code.Records.{Holds}
use Rattle.cycle.specs.Code.Cycle.{GroupTask}
use Rattle.plan.specs.declared.fields.Group.{Group}
use Rattle.race.proofs.Planned.{rows_few}
use Rattle.cycle.proofs.GroupPlans.{two_orders}

map_same : (xs : List ℕ) → map (λ x. x) xs ≡ xs
map_same [] = refl
map_same (x ∷ xs) = ap (λ (ys : List ℕ). x ∷ ys) (map_same xs)

-- every place filled with its number
pub numbered : (old : List ℕ) → filled (λ j. j) old (length old) ≡ range 0 (length old)
numbered old = rw (drop-length old, append-nil) (map_same (range 0 (length old)))

pub sorted_is : {adj : ℕ → List ℕ} {reach n m : ℕ} {T order ends : List ℕ} → Sorted adj reach n 0 T m order ends → order ≡ concat (own_levels adj reach n T)
sorted_is {m = m} s = s.order_is ∙ rw (le-leb 0 m (omega arith))

-- the whole's record
abbrev pub whole_group : (n workers : ℕ) → Group
whole_group n workers = record { start = 0; length = n; first = 0; workers = workers; colour = whole; parent = 0; depth = 0 }

module _ (g : Graph) where
  abbrev n : ℕ
  n = g.m.n

  abbrev adj : ℕ → List ℕ
  adj = adj_in g

  -- all rows by their levels
  abbrev sorted : (reach : ℕ) → List ℕ
  sorted reach = concat (own_levels adj reach n (range 0 n))

  module _ (policy : Policy) (far : (1 ≤ policy.reach) × (policy.reach ≤ max_distance)) (workers : ℕ) where
    -- its plan by the group planner, its rows by their numbers
    abbrev pub numbered_plan : Plan
    numbered_plan = plan_group adj n policy max_depth 0 (group_of (whole_group n workers)) (range 0 n)

    -- a leaf, or the plan of all rows
    abbrev Cases : Type 0
    Cases =
        ((numbered_plan ≡ leaf (group_of (whole_group n workers)) (range 0 n)) × (plan_rows adj n policy workers ≡ leaf (group_of (whole_group n workers)) (sorted policy.reach)))
        ⊎ ((numbered_plan ≡ plan_rows adj n policy workers) × (2 ≤ length numbered_plan.groups))

    cases : Cases
    unfolding plan_rows
    cases = two_orders adj n policy far.0 3 0 (group_of (whole_group n workers)) (range 0 n) (sorted policy.reach) (sym (sorted_levels adj policy.reach n (rows_graph g.rows) (range 0 n) (proper-range n)))

    pub whole_room : (records : List ℕ) → workers ≤ max_workers → length records ≡ width * max_groups → width * (0 + length numbered_plan.groups) ≤ length records
    unfolding leaf
    whole_room records b c = go cases
      where
        go : Cases → width * (0 + length numbered_plan.groups) ≤ length records
        go (inl (e, _)) = rw e (omega arith)
        go (inr (e, _)) = rw e (omega (arith, rows_few adj n policy (rows_graph g.rows) far.0 workers b))

    module _ {count : ℕ} {order before records : List ℕ} (h : Holds numbered_plan 0 before order records count) where
      -- one group: the rows are left to be sorted
      pub leaf-held : count ≡ 1 → (order ≡ range 0 n) × ((order' : List ℕ) → order' ≡ sorted policy.reach → Holds (plan_rows adj n policy workers) 0 before order' records count)
      unfolding leaf
      leaf-held one = go cases
        where
          go : Cases
              → (order ≡ range 0 n) × ((order' : List ℕ) → order' ≡ sorted policy.reach → Holds (plan_rows adj n policy workers) 0 before order' records count)
          go (inl (e, f)) = (
            h.order_is ∙ ap (λ (o : Plan). o.order) e,
            λ order' s. rw f (record { order_is = s; count_is = one; records_are = h.records_are ∙ ap (λ (o : Plan). take (width * 0) before ++ flat o.groups) e }),
          )
          go (inr (e, l)) = absurd (omega (arith, h.count_is))

      -- several: the plan is that of all rows
      pub split-held : (count ≡ 1 → ⊥) → Holds (plan_rows adj n policy workers) 0 before order records count
      unfolding leaf
      split-held more = go cases
        where
          go : Cases → Holds (plan_rows adj n policy workers) 0 before order records count
          go (inl (e, f)) = absurd (more (h.count_is ∙ ap (λ (o : Plan). 0 + length o.groups) e))
          go (inr (e, l)) = rw e at h

-- what the group planner takes
pub whole_task : (set : Setting) (workers : ℕ) (records : List ℕ) → workers ≤ max_workers → length records ≡ width * max_groups
    → GroupTask set max_depth 0 (range 0 set.ranked.graph.m.n) records (whole_group set.ranked.graph.m.n workers)
whole_task set workers records b c = record {
  proper = proper-range set.ranked.graph.m.n;
  size = sym (length-range 0 set.ranked.graph.m.n);
  inside = omega (arith, length-range 0 set.ranked.graph.m.n, set.ranked.graph.rows.small);
  workers = omega arith;
  shallow = omega arith;
  few = omega arith;
  room = whole_room set.ranked.graph (policy_of set.policy) (set.policy.some, set.near) workers records b c;
}
