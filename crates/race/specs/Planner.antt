-- The planner: the order, and the groups depth first.
use Rattle.std.specs.Prelude.{Bool, true, false, ◌&&◌, List, [], ◌∷◌, ◌++◌, map, ℕ, zero, suc, ◌+◌, ◌-◌, ◌*◌, ◌/◌, leb, length, take, drop}
use Rattle.base.specs.Lists.{concat, range}
use Rattle.base.specs.Replies.{Reply, accepted, refused, check, in_turn, room_for}
use Rattle.base.specs.Refusals as why
use Rattle.matrix.specs.Matrix.{Matrix, neighbours, matrix_check}
use Rattle.plan.specs.Groups.{Group, Plan, whole, red, blue, width}
use Rattle.plan.specs.Sound.{max_workers, max_depth, is_distance}
use Rattle.levels.specs.Levels.{own_levels}
use Rattle.race.specs.Loads.{load_of}
use Rattle.extents.specs.Extents.{Policy, extent, cut}

unfoldable pub nothing : Plan
nothing = record { order = []; groups = [] }

-- a stretch of the order with its records, and the next one
infixr 20 ◌then◌
unfoldable pub ◌then◌ : Plan → Plan → Plan
a then b = record { order = a.order ++ b.order; groups = a.groups ++ b.groups }

-- "a leaf keeps its parent's order"
unfoldable pub leaf : Group → List ℕ → Plan
leaf g T = record { order = T; groups = g ∷ [] }

-- a group's planner: from its index, its record and its rows in its parent's order
abbrev pub Planner : Type 0
Planner = ℕ → Group → List ℕ → Plan

-- a pair's red and blue rows, by level, and its workers
pub record Pair : Type 0 where
  pub reds : List ℕ
  pub blues : List ℕ
  pub workers : ℕ

-- the record of a child of the group at index up, and of the whole: "the whole has depth 0 and all workers"
abbrev pub child_of : (up depth start size first workers colour : ℕ) → Group
child_of up depth start size first workers colour = record { start = start; length = size; first = first; workers = workers; colour = colour; parent = up; depth = depth }

abbrev pub whole_of : (n w : ℕ) → Group
whole_of n w = record { start = 0; length = n; first = 0; workers = w; colour = whole; parent = 0; depth = 0 }

-- The pairs of a group of w workers and load R, in the levels ls and the free workers that are left: "The pair gets b
-- workers, the next ones free". k bounds how many
unfoldable pub pairs : (adj : ℕ → List ℕ) (k w R : ℕ) (policy : Policy) (free : ℕ) → List (List ℕ) → List Pair
pairs adj zero w R policy free ls = []
pairs adj (suc k) w R policy free [] = []
pairs adj (suc k) w R policy free (l ∷ ls) =
    let e = extent w R policy free (map (load_of adj) (l ∷ ls)) in
    let mine = take e.levels (l ∷ ls) in
    let c = cut policy.reach (map (load_of adj) mine) in
    record { reds = concat (take c mine); blues = concat (drop c mine); workers = e.workers }
    ∷ pairs adj k w R policy (free - e.workers) (drop e.levels (l ∷ ls))

-- The children of the group at index up, at their depth: "Within a pair red comes first", each child with all below it
unfoldable pub plan_pairs : (child : Planner) (up depth start first index : ℕ) → List Pair → Plan
plan_pairs child up depth start first index [] = nothing
plan_pairs child up depth start first index (c ∷ cs) =
    let mid = start + length c.reds in
    let a = child index (child_of up depth start (length c.reds) first c.workers red) c.reds in
    let index₁ = index + length a.groups in
    let b = child index₁ (child_of up depth mid (length c.blues) first c.workers blue) c.blues in
    a then b then plan_pairs child up depth (mid + length c.blues) (first + c.workers) (index₁ + length b.groups) cs

-- "T is split if it has at least two workers, depth below 4" (a stage is left), and "with m at least 2 × k"
unfoldable pub splits : (reach : ℕ) → Group → List (List ℕ) → Bool
splits reach g ls = leb 2 g.workers && leb (2 * reach) (length ls)

-- "A group is planned by planning its pairs"
unfoldable pub split : (adj : ℕ → List ℕ) (child : Planner) (policy : Policy) (index : ℕ) → Group → List (List ℕ) → Plan
split adj child policy index g ls =
    leaf g [] then
    plan_pairs child index (g.depth + 1) g.start g.first (index + 1) (pairs adj (length ls) g.workers (load_of adj (concat ls)) policy g.workers ls)

-- stages: 4 less the depth
unfoldable pub plan_group : (adj : ℕ → List ℕ) (n : ℕ) (policy : Policy) (stages : ℕ) → Planner
plan_group adj n policy zero index g T = leaf g T
plan_group adj n policy (suc s) index g T =
    let ls = own_levels adj policy.reach n T in
    elim (splits policy.reach g ls) [ true ↦ split adj (plan_group adj n policy s) policy index g ls | false ↦ leaf g T ]

-- "the whole is sorted even as a leaf"
unfoldable pub plan_rows : (adj : ℕ → List ℕ) (n : ℕ) (policy : Policy) (w : ℕ) → Plan
plan_rows adj n policy w =
    plan_group adj n policy max_depth 0 (whole_of n w) (concat (own_levels adj policy.reach n (range 0 n)))

-- the plan of a matrix for w workers at the distance k
unfoldable pub plan : Matrix → (w p k : ℕ) → Plan
plan m w p k = plan_rows (neighbours m) m.n (record { reach = k; p = p }) w

-- "all workers, 1 to 16", "p is 50 to 99", "The planner takes k from 1 to 4"
unfoldable pub are_parameters : (w p k : ℕ) → Bool
are_parameters w p k = leb 1 w && leb w max_workers && leb 50 p && leb p 99 && is_distance k

-- The reply: 5, 7 ("A k outside its limits is treated as a bad p"), 9 "of order, groups, counted in records"; accepted
-- with the count of groups. The two lists are then `lent` of the reply, plan's order and its flat groups; room is each
-- list's length
unfoldable pub plan_reply : Matrix → (w p k order_room groups_room : ℕ) → Reply
plan_reply m w p k order_room groups_room =
    in_turn refused (matrix_check m ∷ check why.bad_parameter (are_parameters w p k) ∷ room_for m.n order_room ∷ room_for (length (plan m w p k).groups) (groups_room / width) ∷ [])
    (accepted (length (plan m w p k).groups))
