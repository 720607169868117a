-- Which plans are sound, as a test that computes. `adj v` lists the rows adjacent to row v, and there are n rows.
use Rattle.std.specs.Prelude.{Bool, true, false, not, ◌&&◌, ◌||◌, List, [], ◌∷◌, ℕ, ◌+◌, ◌*◌, eqb, leb, length, take, drop}
use Rattle.base.specs.Lists.{filter, any, all, is_in, from_first, range}
use Rattle.base.specs.Near.{near}
use Rattle.base.specs.Replies.{Reply, accepted, refused, Check, check, in_turn}
use Rattle.base.specs.Refusals as why
use Rattle.matrix.specs.Matrix.{Matrix, neighbours, matrix_check}
use Rattle.plan.specs.Groups.{Group, Plan, whole, red, blue, width, plan_of}

-- "all workers, 1 to 16"
abbrev pub max_workers : ℕ
max_workers = 16

-- "depth is at most 4"
abbrev pub max_depth : ℕ
max_depth = 4

-- "k from 1 to 4"
abbrev pub max_distance : ℕ
max_distance = 4

-- "a list of records .. at most 512"
abbrev pub max_groups : ℕ
max_groups = 512

-- "its order has each freedom once"
unfoldable pub each_once : ℕ → List ℕ → Bool
each_once n order = eqb (length order) n && all (is_in order) (range 0 n)

-- "its records stand in that order with those .. parents", "depth is at most 4": each record's parent is the record
-- before it, or an ancestor of that. path: the last record's index and its ancestors', up to 0. "A plan is sound only
-- if the field says so": its depth is the number of its ancestors; Depths says it in the request's words
unfoldable pub depth_first : (path : List ℕ) (index : ℕ) → List Group → Bool
depth_first path index [] = true
depth_first path index (g ∷ gs) =
    let up = from_first (eqb g.parent) path in
    leb 1 (length up) && leb (length up) max_depth && eqb g.depth (length up) && depth_first (index ∷ up) (index + 1) gs

-- the children of the group at an index, among the records after the whole
unfoldable pub children : ℕ → List Group → List Group
children index gs = filter (λ h. eqb h.parent index) gs

-- "children tile their parent's stretch, alternate red and blue beginning with red, and are even in number; a red and
-- the next blue have the same workers, at least one, and pairs tile the parent's workers in order": from position s and
-- worker f on
unfoldable pub tiled : Group → (s f : ℕ) → List Group → Bool
tiled g s f [] = eqb s (g.start + g.length) && eqb f (g.first + g.workers)
tiled g s f (r ∷ []) = false
tiled g s f (r ∷ b ∷ ks) =
    eqb r.colour red && eqb b.colour blue
    && eqb r.start s && eqb b.start (s + r.length)
    && eqb r.first f && eqb b.first f
    && leb 1 r.workers && eqb b.workers r.workers
    && tiled g (s + r.length + b.length) (f + r.workers) ks

-- no row of xs and row of ys "are joined or have a common joined freedom"
unfoldable pub apart : (adj : ℕ → List ℕ) (xs ys : List ℕ) → Bool
apart adj xs ys = not (any (λ u. any (λ v. is_in (adj v) u || any (is_in (adj u)) (adj v)) ys) xs)

-- "no path of k joins or fewer links" a row of xs and a row of ys
unfoldable pub beyond : (adj : ℕ → List ℕ) (k : ℕ) (xs ys : List ℕ) → Bool
beyond adj k xs ys = not (any (near adj k xs) ys)

-- a group's rows: its stretch of the order
unfoldable pub stretch_of : List ℕ → Group → List ℕ
stretch_of order g = take g.length (drop g.start order)

-- The condition on two like-coloured children of one parent is a test of their rows, far: document 01's, "no freedoms
-- of two like-coloured children of one parent are joined or have a common joined freedom", or document 02's, "no path
-- of k joins or fewer links like-coloured siblings"
unfoldable pub like_apart : (far : List ℕ → List ℕ → Bool) (order : List ℕ) → List Group → Bool
like_apart far order [] = true
like_apart far order (g ∷ gs) =
    not (any (λ h. eqb g.colour h.colour && not (far (stretch_of order g) (stretch_of order h))) gs)
    && like_apart far order gs

-- the children ks of g: none (a leaf), or tiling it and apart
unfoldable pub children_sound : (far : List ℕ → List ℕ → Bool) (order : List ℕ) → Group → List Group → Bool
children_sound far order g [] = true
children_sound far order g (k ∷ ks) = tiled g g.start g.first (k ∷ ks) && like_apart far order (k ∷ ks)

-- the children of every group from index on; below: the records after the whole
unfoldable pub all_sound : (far : List ℕ → List ℕ → Bool) (order : List ℕ) (below : List Group) (index : ℕ) → List Group → Bool
all_sound far order below index [] = true
all_sound far order below index (g ∷ gs) = children_sound far order g (children index below) && all_sound far order below (index + 1) gs

-- "A plan is sound if its order has each freedom once; its records stand in that order ..; the whole covers all
-- freedoms and 1 to 16 workers from 0; .."
unfoldable pub sound : (far : List ℕ → List ℕ → Bool) (n : ℕ) (order : List ℕ) → List Group → Bool
sound far n order [] = false
sound far n order (g ∷ gs) =
    each_once n order
    && eqb g.start 0 && eqb g.length n && eqb g.first 0 && eqb g.colour whole && eqb g.parent 0 && eqb g.depth 0
    && leb 1 g.workers && leb g.workers max_workers
    && leb (length (g ∷ gs)) max_groups
    && depth_first (0 ∷ []) 1 gs
    && all_sound far order gs 0 (g ∷ gs)

unfoldable pub is_sound : Matrix → Plan → Bool
is_sound m p = sound (apart (neighbours m)) m.n p.order p.groups

-- "Soundness at k has as its last condition that no path of k joins or fewer links like-coloured siblings"
unfoldable pub is_sound_at : (k : ℕ) → Matrix → Plan → Bool
is_sound_at k m p = sound (beyond (neighbours m) k) m.n p.order p.groups

-- a plan in lent lists: "lists that fall short of them get .. 8 for a plan"
abbrev pub plan_lent : (test : Plan → Bool) → Matrix → (order groups : List ℕ) (count : ℕ) → Bool
plan_lent test m order groups count =
    leb m.n (length order) && leb count max_groups && leb (width * count) (length groups)
    && test (plan_of m.n order groups count)

-- .. that is sound; "The force run still checks at 2"
unfoldable pub is_plan : Matrix → (order groups : List ℕ) (count : ℕ) → Bool
is_plan m = plan_lent (is_sound m) m

-- .. that is sound at k
unfoldable pub is_plan_at : (k : ℕ) → Matrix → (order groups : List ℕ) (count : ℕ) → Bool
is_plan_at k m = plan_lent (is_sound_at k m) m

-- "8: plan not sound for this matrix"
unfoldable pub plan_check : Matrix → (order groups : List ℕ) (count : ℕ) → Check
plan_check m order groups count = check why.unsound (is_plan m order groups count)

-- "The planner takes k from 1 to 4"
unfoldable pub is_distance : ℕ → Bool
is_distance k = leb 1 k && leb k max_distance

-- the reply of the plan's check at k: 5, 7 ("A k outside its limits is treated as a bad p"), 8
unfoldable pub check_reply : Matrix → (order groups : List ℕ) (count k : ℕ) → Reply
check_reply m order groups count k =
    in_turn refused (matrix_check m ∷ check why.bad_parameter (is_distance k) ∷ check why.unsound (is_plan_at k m order groups count) ∷ []) (accepted 0)
