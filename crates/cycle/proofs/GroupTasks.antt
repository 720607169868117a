-- A group's planner: what it hands to the sort, to the loads and to the pair planner, and what the lists hold after it.
use mathlib.Core.Path.{◌≡◌, sym, ap, ◌∙◌, subst}
use mathlib.Core.List.{List, map, ◌++◌}
use Prim.Native.Nat.{ℕ, ◌+◌, ◌*◌, ◌-◌, ◌≤◌, ◌<◌, ◌^◌}
use native.Mathlib.Omega.{arith}
use lib.ListN.{length, take}
use lib.Seq.{length-take-le, get_or-take}
use borrow.Author.Tests.{le-leb, lt-leb}
use Rattle.base.specs.Lists.{concat, sum}
use Rattle.base.proofs.Counts.{same_length}
use Rattle.levels.specs.Levels.{own_levels}
use Rattle.levels.specs.Code.Group.{Proper}
use Rattle.levels.specs.Code.Graph.{adj as adj_in}
use Rattle.sort.specs.Code.Sort.{max_levels}
use Rattle.sort.specs.Code.Sorted.{Sorted}
use Rattle.levels.proofs.Proper.{proper-same}
use Rattle.levels.proofs.Own.{own_same}
use Rattle.levels.proofs.Rows.{rows_graph}
use Rattle.plan.specs.Groups.{width, fields_of, group_of}
use Rattle.extents.specs.Code.Scans.{policy_of}
use Rattle.extents.specs.Extents.{Policy}
use Rattle.race.specs.Loads.{load_of}
use Rattle.race.specs.Planner.{plan_group}
use Rattle.loads.specs.Code.Stretches.{levels_in, key_load, Weighed, Levelled, Loaded}
use Rattle.cycle.specs.Code.Records.{Holds}
use Rattle.cycle.specs.Code.Cycle.{GroupTask, PairsTask, pairs_plan}
use Rattle.plan.specs.declared.fields.Group.{Group}
use Rattle.cycle.specs.declared.setting.Setting.{Setting}
use Rattle.cycle.specs.declared.Parent.{Parent}
use Rattle.cycle.specs.declared.Left.{Left}
use Rattle.loads.proofs.Weights.{load-concat, load-some, load-few, loaded_keys, group_weighed}
use Rattle.loads.proofs.Stretches.{ends_are, levels-in}
use Rattle.cycle.proofs.GroupPlans.{own-few, own-some, groups-some, leaf_stages, leaf-workers, leaf-levels, pairs_below, count-split, holds_unsplit, holds-split}

module _ {set : Setting} {stages index : ℕ} {T records : List ℕ} {g : Group} (task : GroupTask set stages index T records g) where
  abbrev n : ℕ
  n = set.ranked.graph.m.n

  abbrev policy : Policy
  policy = policy_of set.policy

  abbrev adj : ℕ → List ℕ
  adj = adj_in set.ranked.graph

  -- its own levels
  abbrev ls : List (List ℕ)
  ls = own_levels adj policy.reach n T

  -- there is room for its record
  pub record_room : width * (index + 1) ≤ length records
  record_room = omega (arith, task.room, groups-some adj n policy stages index (group_of g) T)

  pub index_few : index + 1 < 2 ^ 32
  index_few = omega (arith, record_room, task.few)

  -- too few levels are not sorted by
  pub unsorted : {m : ℕ} {stretch ends : List ℕ} → Sorted adj policy.reach n (2 * policy.reach) T m stretch ends → m < 2 * policy.reach → stretch ≡ T
  unsorted {m} s l = s.order_is ∙ rw (lt-leb (2 * policy.reach) m l)

  -- its record is put, and it is not split
  module _ {records' : List ℕ} (put : take (width * (index + 1)) records' ≡ take (width * index) records ++ fields_of (group_of g)) where
    pub held-stages : stages ≡ 0 → Holds (plan_group adj n policy stages index (group_of g) T) index records T records' (index + 1)
    held-stages e = holds_unsplit adj n policy stages index (group_of g) T records records' put (leaf_stages adj n policy stages index (group_of g) T e)

    pub held-workers : g.workers < 2 → Holds (plan_group adj n policy stages index (group_of g) T) index records T records' (index + 1)
    held-workers l = holds_unsplit adj n policy stages index (group_of g) T records records' put (leaf-workers adj n policy stages index (group_of g) T l)

    pub held-levels : {m : ℕ} {stretch ends : List ℕ} → Sorted adj policy.reach n (2 * policy.reach) T m stretch ends → m < 2 * policy.reach
        → Holds (plan_group adj n policy stages index (group_of g) T) index records stretch records' (index + 1)
    held-levels s l =
        subst (λ (xs : List ℕ). Holds (plan_group adj n policy stages index (group_of g) T) index records xs records' (index + 1)) (sym (unsorted s l))
        (holds_unsplit adj n policy stages index (group_of g) T records records' put (leaf-levels adj n policy stages index (group_of g) T (omega (arith, s.levels_are))))

  -- ---- after the sort

  module _ {m : ℕ} {stretch ends : List ℕ} (s : Sorted adj policy.reach n (2 * policy.reach) T m stretch ends) where
    pub levels-few : m ≤ max_levels
    levels-few = omega (arith, s.levels_are, own-few adj policy.reach n T, set.ranked.graph.rows.small)

    pub ends_in : m ≤ length ends
    ends_in = omega (arith, s.ends_long, levels-few)

    pub ends-length : length (take m ends) ≡ m
    ends-length = length-take-le m ends ends_in

    module _ (enough : 2 * policy.reach ≤ m) where
      stretch_is : stretch ≡ concat ls
      stretch_is = s.order_is ∙ rw (le-leb (2 * policy.reach) m enough)

      -- the levels of its stretch
      levelled : Levelled 0 (take m ends) stretch ls
      levelled = record {
        ends_are =
            ends_are ls (take m ends) (ends-length ∙ s.levels_are)
            (λ j l. get_or-take m ends j 0 (omega (arith, s.levels_are)) ∙ s.ends_are enough j (omega (arith, s.levels_are)));
        rows_are = stretch_is;
      }

      levels_are : levels_in 0 (take m ends) stretch ≡ ls
      levels_are = levels-in levelled

      pub levelled_in : Levelled 0 (take m ends) stretch (levels_in 0 (take m ends) stretch)
      levelled_in = rw levels_are levelled

      pub stretch_proper : Proper n stretch
      stretch_proper = rw stretch_is (proper-same n (concat ls) T (own_same adj policy.reach n (rows_graph set.ranked.graph.rows) T task.proper) task.proper)

      pub ends-few : length (take m ends) ≤ max_levels
      ends-few = omega (arith, ends-length, levels-few)

      pub weighed : Weighed set.ranked.keys.now stretch
      weighed = group_weighed n set.ranked.graph.m.starts.now set.ranked.graph.m.columns.now set.ranked.keys.now stretch set.ranked.graph.rows set.ranked.keyed stretch_proper

      -- ---- after the loads

      module _ {all : ℕ} {loads : List ℕ} (by_keys : Loaded (key_load set.ranked.keys.now) stretch (levels_in 0 (take m ends) stretch) all loads) where
        pub loads_in : m ≤ length loads
        loads_in = omega (arith, by_keys.long, levels-few)

        loaded : Loaded (load_of adj) stretch (levels_in 0 (take m ends) stretch) all loads
        loaded = loaded_keys set.ranked.keyed stretch_proper levelled_in.rows_are by_keys

        -- the group that is split, and what is left of it: all
        abbrev pub parent_of : Parent
        parent_of = record { index = index; depth = g.depth; start = g.start; workers = g.workers; load = all }

        abbrev pub whole_left : Left
        whole_left = record { done = 0; first = g.first; free = g.workers; index = index + 1 }

        loads_are : take m loads ≡ map (load_of adj) ls
        loads_are = rw (levels_are, ← s.levels_are) at loaded.loads_are

        all_is : all ≡ load_of adj (concat ls)
        all_is = loaded.all_is ∙ ap (load_of adj) stretch_is

        -- the plan of all its pairs
        pairs-are : (k : ℕ) → pairs_plan adj n policy k parent_of whole_left (levels_in 0 (take m ends) stretch) ≡ pairs_below adj n policy k index (group_of g) ls
        pairs-are k =
            let start : g.start + 0 ≡ g.start = omega arith in
            rw (levels_are, start, all_is)

        module _ (stages_left : stages ≡ 0 → ⊥) (workers : 2 ≤ g.workers) {records' : List ℕ} (long : length records' ≡ length records) where
          pub pairs_task : PairsTask set (stages - 1) stretch (take m ends) (take m loads) records' parent_of whole_left (levels_in 0 (take m ends) stretch)
          pairs_task = record {
            proper = stretch_proper;
            levelled = levelled_in;
            loads_are = rw levels_are loads_are;
            scale = record {
              some = rw all_is (load-some adj (concat ls) (own-some adj policy.reach n T (omega (arith, s.levels_are))));
              few = rw loaded.all_is (load-few n set.ranked.graph.m.starts.now set.ranked.graph.m.columns.now stretch set.ranked.graph.rows stretch_proper);
              workers = omega (arith, task.workers);
            };
            within = omega (arith, ap sum loads_are, load-concat adj ls, all_is);
            levels = rw levels_are (omega (arith, s.levels_are));
            free = omega arith;
            inside = omega (arith, task.inside, ap length stretch_is, same_length (concat ls) T (own_same adj policy.reach n (rows_graph set.ranked.graph.rows) T task.proper));
            workers = task.workers;
            shallow = omega (arith, task.shallow, stages_left);
            few = omega (arith, task.few);
            room = rw (pairs-are (stages - 1)) (omega (arith, task.room, count-split adj n policy stages index (group_of g) T stages_left workers (omega (arith, s.levels_are))));
          }

          -- what the lists hold after its pairs
          pub split-holds : take (width * (index + 1)) records' ≡ take (width * index) records ++ fields_of (group_of g) → {order after : List ℕ} {count : ℕ}
              → Holds (pairs_plan adj n policy (stages - 1) parent_of whole_left (levels_in 0 (take m ends) stretch)) (index + 1) records' order after count
              → Holds (plan_group adj n policy stages index (group_of g) T) index records order after count
          split-holds put {order} {after} {count} h =
              holds-split adj n policy stages index (group_of g) T records records' put stages_left workers (omega (arith, s.levels_are)) order after count (rw (pairs-are (stages - 1)) at h)
