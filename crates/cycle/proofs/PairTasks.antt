-- A pair's planner: what it hands to the planners of its red and its blue group and to itself, and what the lists hold
-- after it.
use mathlib.Core.Path.{◌≡◌, refl, sym, ap, ◌∙◌, subst}
use mathlib.Core.List.{List, [], ◌∷◌, ◌++◌, map}
use Prim.Native.Nat.{ℕ, zero, suc, ◌+◌, ◌*◌, ◌-◌, ◌≤◌, ◌<◌}
use native.Mathlib.Omega.{arith}
use lib.ListN.{length, take, drop, get_or, length-drop, length-map, drop_of_length-le}
use lib.Seq.{take_all}
use Rattle.base.specs.Lists.{sum}
use Rattle.levels.specs.Code.Group.{Proper}
use Rattle.levels.specs.Code.Graph.{adj as adj_in}
use Rattle.levels.proofs.Proper.{proper-left, proper-right}
use Rattle.plan.specs.Groups.{Plan, group_of}
use Rattle.race.specs.Loads.{load_of}
use Rattle.race.specs.Planner.{pairs, plan_pairs, ◌then◌, plan_group}
use Rattle.extents.specs.Extents.{Policy}
use Rattle.extents.specs.Code.Scans.{policy_of}
use Rattle.loads.specs.Code.Stretches.{levels_in, ends_of, Levelled}
use Rattle.cycle.specs.Code.Records.{Holds}
use Rattle.cycle.specs.Code.Cycle.{red_group, blue_group, left_after, Fits, GroupTask, PairsTask, pairs_plan}
use Rattle.plan.specs.declared.fields.Group.{Group}
use Rattle.cycle.specs.declared.setting.Setting.{Setting}
use Rattle.cycle.specs.declared.Parent.{Parent}
use Rattle.cycle.specs.declared.Left.{Left}
use Rattle.cycle.specs.declared.Pair.{Pair}
use Rattle.extents.proofs.Ends.{sum-split}
use Rattle.cycle.proofs.Thirds.{fronted, part, patched, first_part, first_back, second-part, second_back, third_part, third_back, three_length}
use Rattle.loads.proofs.Stretches.{length-ends, ends_at, ends-drop, levels-in}
use Rattle.cycle.proofs.Holding.{holds-nothing, holds_then}
use Rattle.cycle.proofs.NextPair.{Found, bounds, reds, blues, later, reds-length, rows_is, rows-length, blues-length, stretch_parts, red_plan, blue_plan, rest_plan, blue_index, rest_index, plan-next, count_next, workers-most, left_over}

-- what is lent of a list from a place on
pub part_to_end : (xs : List ℕ) (a : ℕ) → part xs a (length xs) ≡ drop a xs
part_to_end xs a = take_all (length xs - a) (drop a xs) (omega (arith, length-drop a xs))

map-drop : (f : List ℕ → ℕ) (k : ℕ) (ls : List (List ℕ)) → drop k (map f ls) ≡ map f (drop k ls)
map-drop f zero ls = refl
map-drop f (suc k) [] = refl
map-drop f (suc k) (l ∷ ls) = map-drop f k ls

module _ {set : Setting} {stages : ℕ} {stretch ends loads records : List ℕ} {up : Parent} {left : Left} {ls : List (List ℕ)}
    (task : PairsTask set stages stretch ends loads records up left ls) where
  pub ends-count : length ends ≡ length ls
  ends-count = ap length task.levelled.ends_are ∙ length-ends left.done ls

  pub loads-count : length loads ≡ length ls
  loads-count = ap length task.loads_are ∙ length-map ls (load_of (adj_in set.ranked.graph))

  -- what the search for the next pair asks
  pub next_asked : (sum loads ≤ up.load) × (2 * set.policy.reach ≤ length loads) × (1 ≤ left.free) × (length ends ≡ length loads)
      × ((j : ℕ) → j < length ends → left.done ≤ get_or ends j 0)
  next_asked = (
    task.within,
    omega (arith, loads-count, task.levels),
    task.free,
    ends-count ∙ sym loads-count,
    λ j l. rw (task.levelled.ends_are, ends_at left.done ls j (omega (arith, ends-count))) (omega arith),
  )

module _ {set : Setting} {stages : ℕ} {stretch ends loads records : List ℕ} {up : Parent} {left : Left} {ls : List (List ℕ)}
    (task : PairsTask set stages stretch ends loads records up left ls) {pair : Pair} (found : Found (policy_of set.policy) up left ends loads pair) where
  abbrev n : ℕ
  n = set.ranked.graph.m.n

  abbrev policy : Policy
  policy = policy_of set.policy

  abbrev adj : ℕ → List ℕ
  adj = adj_in set.ranked.graph

  abbrev a : ℕ
  a = pair.reds

  abbrev b : ℕ
  b = pair.rows

  -- the plan of the pairs that are left
  abbrev plan : Plan
  plan = pairs_plan adj n policy stages up left ls

  -- ---- the red group

  red-part : take a stretch ≡ reds task found
  red-part = rw (stretch_parts task found) (first_part (reds task found) (blues task found) (later task found) a b (reds-length task found) (rows-length task found))

  stretch_length : length stretch ≡ b + length (later task found)
  stretch_length = ap length (stretch_parts task found) ∙ three_length (reds task found) (blues task found) (later task found) a b (reds-length task found) (rows-length task found)

  parts-proper : Proper n (reds task found ++ (blues task found ++ later task found))
  parts-proper = rw (stretch_parts task found) at task.proper

  rest-proper : Proper n (blues task found ++ later task found)
  rest-proper = proper-right n (reds task found) (blues task found ++ later task found) parts-proper

  -- the parts lie in the stretch
  pub parts_in : (a ≤ b) × (b ≤ length stretch)
  parts_in = (omega (arith, rows-length task found), omega (arith, stretch_length))

  -- its levels are among those that are left
  pub levels_in_ends : (2 * policy.reach ≤ pair.levels) × (pair.levels ≤ length ends) × (pair.levels ≤ length loads)
  levels_in_ends = let k = bounds task found in (k.some, omega (arith, ends-count task), omega (arith, loads-count task))

  -- its numbers are small
  pub pair_fits : Fits up left pair
  pair_fits = record { parts = parts_in.0; inside = omega (arith, parts_in, task.inside); some = workers-most task found; workers = task.workers; shallow = omega (arith, task.shallow) }

  pub red_task : GroupTask set stages left.index (take a stretch) records (red_group up left pair)
  red_task = rw red-part (record {
    proper = proper-left n (reds task found) (blues task found ++ later task found) parts-proper;
    size = sym (reds-length task found);
    inside = omega (arith, task.inside, stretch_length, reds-length task found, rows-length task found);
    workers = omega (arith, task.workers, workers-most task found);
    shallow = task.shallow;
    few = task.few;
    room = omega (arith, task.room, count_next task found);
  })

  -- ---- the blue group, once the red one is planned

  module _ {red : Group} (red_is : red ≡ red_group up left pair) {xs records₁ : List ℕ} {i : ℕ}
      (red-held : Holds (plan_group adj n policy stages left.index (group_of red) (take a stretch)) left.index records xs records₁ i)
      (xs-long : length xs ≡ length (take a stretch)) (long₁ : length records₁ ≡ length records) where
    red_held' : Holds (red_plan task found) left.index records xs records₁ i
    red_held' =
        rw red-part at
        (subst (λ (g : Group). Holds (plan_group adj n policy stages left.index (group_of g) (take a stretch)) left.index records xs records₁ i) red_is red-held)

    xs_length : length xs ≡ a
    xs_length = xs-long ∙ ap length red-part ∙ reds-length task found

    abbrev pub one : List ℕ
    one = fronted stretch a xs

    one-is : one ≡ xs ++ (blues task found ++ later task found)
    one-is = rw (stretch_parts task found) (first_back (reds task found) (blues task found) (later task found) a b (reds-length task found) (rows-length task found) xs)

    blue-part : part one a b ≡ blues task found
    blue-part = rw one-is (second-part xs (blues task found) (later task found) a b xs_length (rows-length task found))

    pub one-length : length one ≡ length stretch
    one-length = ap length one-is ∙ three_length xs (blues task found) (later task found) a b xs_length (rows-length task found) ∙ sym stretch_length

    pub in-one : b ≤ length one
    in-one = omega (arith, one-length, parts_in)

    i_is : i ≡ blue_index task found
    i_is = red_held'.count_is

    pub blue_task : GroupTask set stages i (part one a b) records₁ (blue_group up left pair)
    blue_task = rw (blue-part, i_is) (record {
      proper = proper-left n (blues task found) (later task found) rest-proper;
      size = sym (blues-length task found);
      inside = omega (arith, task.inside, stretch_length, rows-length task found);
      workers = omega (arith, task.workers, workers-most task found);
      shallow = task.shallow;
      few = omega (arith, task.few);
      room = omega (arith, task.room, count_next task found);
    })

    -- ---- the pairs after it, once both are planned

    module _ {blue : Group} (blue_is : blue ≡ blue_group up left pair) {ys records₂ : List ℕ} {j : ℕ}
        (blue-held : Holds (plan_group adj n policy stages i (group_of blue) (part one a b)) i records₁ ys records₂ j)
        (ys-long : length ys ≡ length (part one a b)) (long₂ : length records₂ ≡ length records₁) where
      blue_held' : Holds (blue_plan task found (blue_index task found)) (blue_index task found) records₁ ys records₂ j
      blue_held' =
          rw (blue-part, i_is) at
          (subst (λ (g : Group). Holds (plan_group adj n policy stages i (group_of g) (part one a b)) i records₁ ys records₂ j) blue_is blue-held)

      rows_length' : a + length ys ≡ b
      rows_length' = omega (arith, ys-long, ap length blue-part, rows-length task found)

      abbrev pub two : List ℕ
      two = patched one a b ys

      two_is : two ≡ xs ++ (ys ++ later task found)
      two_is = rw one-is (second_back xs (blues task found) (later task found) a b xs_length (rows-length task found) ys)

      pub two-length : length two ≡ length stretch
      two-length = ap length two_is ∙ three_length xs ys (later task found) a b xs_length rows_length' ∙ sym stretch_length

      pub in-two : b ≤ length two
      in-two = omega (arith, two-length, parts_in)

      j_is : j ≡ rest_index task found
      j_is = blue_held'.count_is

      -- the plan so far and the rest's make the whole
      held_next : {zs after : List ℕ} {count : ℕ} → Holds (rest_plan task found j) j records₂ zs after count → Holds plan left.index records (xs ++ (ys ++ zs)) after count
      held_next {zs} {after} {count} h =
          rw (plan-next task found)
          (holds_then (red_plan task found) (blue_plan task found (blue_index task found) then rest_plan task found (rest_index task found)) left.index (blue_index task found) count records records₁ after xs (ys ++ zs)
          (rw i_is at red_held')
          (holds_then (blue_plan task found (blue_index task found)) (rest_plan task found (rest_index task found)) (blue_index task found) (rest_index task found) count records₁ records₂ after ys zs
          (rw j_is at blue_held') (rw j_is at h)))

      -- it took all levels
      pub last-held : pair.levels ≡ length ends → Holds plan left.index records two records₂ j
      unfolding pairs plan_pairs
      last-held all =
          let none : drop pair.levels ls ≡ [] = drop_of_length-le ls {i = pair.levels} (omega (arith, ends-count task)) in
          rw two_is (held_next (rw none (holds-nothing j records₂ [] refl)))

      rest_part : part two b (length two) ≡ later task found
      rest_part = rw two_is (third_part xs ys (later task found) a b xs_length rows_length')

      -- the whole once the rest is back
      pub whole_length : (zs : List ℕ) → length zs ≡ length (part two b (length two)) → length (patched two b (length two) zs) ≡ length stretch
      whole_length zs zs-long =
          rw (two_is, third_back xs ys (later task found) a b xs_length rows_length' zs)
          (three_length xs ys zs a b xs_length rows_length' ∙ omega (arith, stretch_length, zs-long, ap length rest_part))

      -- it left some
      module _ (some : pair.levels ≡ length ends → ⊥) where
        rest-levelled : Levelled (left.done + b) (part ends pair.levels (length ends)) (part two b (length two)) (drop pair.levels ls)
        rest-levelled = record {
          ends_are =
              part_to_end ends pair.levels
              ∙ ap (drop pair.levels) task.levelled.ends_are
              ∙ ends-drop left.done pair.levels ls
              ∙ ap (λ (x : ℕ). ends_of (left.done + x) (drop pair.levels ls)) (sym (rows_is task found));
          rows_are = rest_part;
        }

        rest-levels : levels_in (left.done + b) (part ends pair.levels (length ends)) (part two b (length two)) ≡ drop pair.levels ls
        rest-levels = levels-in rest-levelled

        over : (pair.levels + 2 * policy.reach ≤ length ls) × (pair.workers < left.free)
        over = left_over task found (λ e. some (e ∙ sym (ends-count task)))

        pub rest_task : PairsTask set stages (part two b (length two)) (part ends pair.levels (length ends)) (part loads pair.levels (length loads)) records₂ up (left_after left pair j)
            (levels_in (left.done + b) (part ends pair.levels (length ends)) (part two b (length two)))
        rest_task = rw rest-levels (record {
          proper = rw rest_part (proper-right n (blues task found) (later task found) rest-proper);
          levelled = rest-levelled;
          loads_are = part_to_end loads pair.levels ∙ ap (drop pair.levels) task.loads_are ∙ map-drop (load_of adj) pair.levels ls;
          scale = task.scale;
          within = omega (arith, task.within, ap sum (part_to_end loads pair.levels), sum-split pair.levels loads);
          levels = omega (arith, length-drop pair.levels ls, over);
          free = omega (arith, over);
          inside = omega (arith, task.inside, stretch_length, ap length rest_part);
          workers = omega (arith, task.workers, over);
          shallow = task.shallow;
          few = omega (arith, task.few);
          room = rw j_is (omega (arith, task.room, count_next task found));
        })

        pub next-held : {zs after : List ℕ} {count : ℕ}
            → Holds (pairs_plan adj n policy stages up (left_after left pair j) (levels_in (left.done + b) (part ends pair.levels (length ends)) (part two b (length two)))) j records₂ zs after count
            → Holds plan left.index records (patched two b (length two) zs) after count
        next-held {zs} h =
            rw (two_is, third_back xs ys (later task found) a b xs_length rows_length' zs) (held_next (rw rest-levels at h))
