-- The next pair of a stretch: its red rows, its blue rows, and what is left.
use mathlib.Core.Path.{◌≡◌, refl, sym, ap, ◌∙◌}
use mathlib.Core.Logic.{◌⊎◌, inl, inr}
use mathlib.Core.List.{List, [], ◌∷◌, ◌++◌, map, append_assoc}
use Prim.Native.Nat.{ℕ, zero, suc, ◌+◌, ◌*◌, ◌-◌, ◌≤◌, ◌<◌}
use native.Mathlib.Omega.{arith}
use lib.ListN.{length, take, drop, get_or, length-append, length-map}
use lib.Seq.{take-take}
use Rattle.base.specs.Lists.{concat}
use Rattle.levels.specs.Code.Graph.{adj as adj_in}
use Rattle.plan.specs.Groups.{Plan, red, blue, group_of}
use Rattle.race.specs.Loads.{load_of}
use Rattle.extents.specs.Code.Scans.{policy_of}
use Rattle.extents.specs.Extents.{Policy, Extent, extent, cut}
use Rattle.race.specs.Planner as planner
use Rattle.race.specs.Planner.{Planner, child_of, pairs, plan_pairs, ◌then◌, plan_group}
use Rattle.cycle.specs.Code.Cycle.{red_group, blue_group, left_after, PairsTask, pairs_plan}
use Rattle.cycle.specs.declared.setting.Setting.{Setting}
use Rattle.cycle.specs.declared.Parent.{Parent}
use Rattle.cycle.specs.declared.Left.{Left}
use Rattle.cycle.specs.declared.Pair.{Pair}
use Rattle.extents.specs.PairLevels.{PairTakes}
use Rattle.loads.proofs.Stretches.{rows_in, ends_at, rows_split}
use Rattle.cycle.proofs.PairPlans.{extent_of, cut_of, extent-of, taken-most, Bounds, pair_bounds, pairs_next}

-- what the code finds of the next pair
abbrev pub Found : (policy : Policy) (up : Parent) (left : Left) (ends loads : List ℕ) → Pair → Type 0
Found policy up left ends loads pair =
    (pair.levels ≡ (extent up.workers up.load policy left.free loads).levels)
    × (pair.workers ≡ (extent up.workers up.load policy left.free loads).workers)
    × (pair.reds ≡ get_or ends (cut policy.reach (take pair.levels loads) - 1) 0 - left.done)
    × (pair.rows ≡ get_or ends (pair.levels - 1) 0 - left.done)

-- the plan of a pair and those after it, its sizes known
pairs-cons : (child : Planner) (up depth start first index : ℕ) (rs bs : List ℕ) (v : ℕ) (cs : List planner.Pair) (a b : ℕ) → length rs ≡ a → length bs ≡ b
    → let r = child index (child_of up depth start a first v red) rs in
    let i = index + length r.groups in
    let s = child i (child_of up depth (start + a) b first v blue) bs in
    plan_pairs child up depth start first index (record { reds = rs; blues = bs; workers = v } ∷ cs)
    ≡ (r then (s then plan_pairs child up depth (start + a + b) (first + v) (i + length s.groups) cs))
unfolding plan_pairs
pairs-cons child up depth start first index rs bs v cs a b ea eb = rw (← ea, ← eb)

module _ {set : Setting} {stages : ℕ} {stretch ends loads records : List ℕ} {up : Parent} {left : Left} {ls : List (List ℕ)}
    (task : PairsTask set stages stretch ends loads records up left ls) {pair : Pair} (found : Found (policy_of set.policy) up left ends loads pair) where
  abbrev n : ℕ
  n = set.ranked.graph.m.n

  abbrev policy : Policy
  policy = policy_of set.policy

  abbrev adj : ℕ → List ℕ
  adj = adj_in set.ranked.graph

  found' : Found policy up left ends (map (load_of adj) ls) pair
  found' = rw task.loads_are at found

  abbrev k : ℕ
  k = pair.levels

  -- how many of its levels are red
  abbrev c : ℕ
  c = cut_of adj up.workers up.load policy set.policy.some k ls

  map-take : (j : ℕ) (ms : List (List ℕ)) → take j (map (load_of adj) ms) ≡ map (load_of adj) (take j ms)
  map-take zero ms = refl
  map-take (suc j) [] = refl
  map-take (suc j) (m ∷ ms) = ap (λ (xs : List ℕ). load_of adj m ∷ xs) (map-take j ms)

  cut-is : c ≡ cut policy.reach (take k (map (load_of adj) ls))
  cut-is = ap (cut policy.reach) (sym (map-take k ls))

  pub bounds : Bounds policy.reach (length ls) k c
  bounds = rw (length-map ls (load_of adj)) at
      (pair_bounds up.workers up.load policy left.free (map (load_of adj) ls) k c set.policy.some task.free (rw (length-map ls (load_of adj)) task.levels) found'.0 cut-is)

  -- its rows
  abbrev pub reds : List ℕ
  reds = concat (take c ls)

  abbrev pub blues : List ℕ
  blues = concat (drop c (take k ls))

  abbrev pub later : List ℕ
  later = concat (drop k ls)

  end-at : (j : ℕ) → 1 ≤ j → j ≤ length ls → get_or ends (j - 1) 0 - left.done ≡ rows_in j ls
  end-at zero a b = absurd (omega arith)
  end-at (suc j) a b =
      let less : suc j - 1 ≡ j = omega arith in
      rw (less, task.levelled.ends_are, ends_at left.done ls j b) (omega arith)

  pub reds-length : length reds ≡ pair.reds
  reds-length = sym (found'.2 ∙ rw (← cut-is) (end-at c (omega (arith, bounds.reds)) (omega (arith, bounds.blues, bounds.most))))

  -- the pair's rows, red ones first
  both : concat (take k ls) ≡ reds ++ blues
  both =
      rows_split (take k ls) c
      ∙ ap (λ (ms : List (List ℕ)). concat ms ++ blues) (take-take c k ls (omega (arith, bounds.blues)))

  pub rows_is : pair.rows ≡ rows_in k ls
  rows_is = found'.3 ∙ end-at k (omega (arith, bounds.some)) bounds.most

  pub rows-length : pair.reds + length blues ≡ pair.rows
  rows-length = omega (arith, rows_is, ap length both, length-append reds blues, reds-length)

  pub stretch_parts : stretch ≡ reds ++ (blues ++ later)
  stretch_parts = task.levelled.rows_are ∙ rows_split ls k ∙ ap (λ (xs : List ℕ). xs ++ later) both ∙ append_assoc reds blues later

  pub blues-length : length blues ≡ pair.rows - pair.reds
  blues-length = omega (arith, rows-length)

  -- the plans of its red group, of its blue group from an index on, and of the pairs after it from an index on
  abbrev pub red_plan : Plan
  red_plan = plan_group adj n policy stages left.index (group_of (red_group up left pair)) reds

  abbrev pub blue_plan : (index : ℕ) → Plan
  blue_plan i = plan_group adj n policy stages i (group_of (blue_group up left pair)) blues

  abbrev pub rest_plan : (index : ℕ) → Plan
  rest_plan j = pairs_plan adj n policy stages up (left_after left pair j) (drop k ls)

  abbrev pub blue_index : ℕ
  blue_index = left.index + length red_plan.groups

  abbrev pub rest_index : ℕ
  rest_index = blue_index + length (blue_plan blue_index).groups

  -- the three make the plan of the pairs that are left
  pub plan-next : pairs_plan adj n policy stages up left ls ≡ (red_plan then (blue_plan blue_index then rest_plan rest_index))
  plan-next =
      let child = plan_group adj n policy stages in
      let one : concat (take c (take k ls)) ≡ reds = ap concat (take-take c k ls (omega (arith, bounds.blues))) in
      let start : up.start + left.done + pair.reds + (pair.rows - pair.reds) ≡ up.start + (left.done + pair.rows) = omega (arith, rows-length) in
      let next = pairs_next adj up.workers up.load policy set.policy.some left.free ls task.free task.levels in
      ap (plan_pairs child up.index (up.depth + 1) (up.start + left.done) left.first left.index) (rw (← found'.0, ← found'.1, one) at next)
      ∙ pairs-cons child up.index (up.depth + 1) (up.start + left.done) left.first left.index reds blues pair.workers
      (pairs adj (length (drop k ls)) up.workers up.load policy (left.free - pair.workers) (drop k ls)) pair.reds (pair.rows - pair.reds) reds-length blues-length
      ∙ ap (λ (x : ℕ). red_plan then (blue_plan blue_index then plan_pairs child up.index (up.depth + 1) x (left.first + pair.workers) rest_index
      (pairs adj (length (drop k ls)) up.workers up.load policy (left.free - pair.workers) (drop k ls)))) start

  pub count_next : length (pairs_plan adj n policy stages up left ls).groups ≡ length red_plan.groups + (length (blue_plan blue_index).groups + length (rest_plan rest_index).groups)
  unfolding ◌then◌
  count_next = rw plan-next (simp length-append)

  -- what it takes
  taken : PairTakes policy.reach (length ls) left.free (extent_of adj up.workers up.load policy set.policy.some left.free ls)
  taken = extent-of adj up.workers up.load policy set.policy.some left.free ls task.free task.levels

  -- no more workers than are free
  pub workers-most : pair.workers ≤ left.free
  workers-most = omega (arith, found'.1, taken-most taken)

  -- where it does not take all levels, enough for a pair and a worker are left
  pub left_over : (pair.levels ≡ length ls → ⊥) → (pair.levels + 2 * policy.reach ≤ length ls) × (pair.workers < left.free)
  left_over some = go taken.rest
    where
      e : Extent
      e = extent_of adj up.workers up.load policy set.policy.some left.free ls

      go : ((e.levels ≡ length ls) × (e.workers ≡ left.free)) ⊎ ((e.levels + 2 * policy.reach ≤ length ls) × (e.workers < left.free)) → (pair.levels + 2 * policy.reach ≤ length ls) × (pair.workers < left.free)
      go (inl h) = absurd (some (found'.0 ∙ h.0))
      go (inr h) = (omega (arith, found'.0), omega (arith, found'.1))
