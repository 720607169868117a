-- Every leaf of the planner's plans is one by the rule.
use mathlib.Core.Path.{◌≡◌, refl, sym, ap, ◌∙◌, subst}
use mathlib.Core.Logic.{◌⊎◌, inl, inr}
use mathlib.Core.Bool.{Bool, true, false, ◌&&◌, true≢false}
use mathlib.Core.List.{List, [], ◌∷◌, ◌++◌}
use Prim.Native.Nat.{ℕ, zero, suc, ◌+◌, ◌-◌, ◌*◌, ◌≤◌, ◌<◌}
use native.Mathlib.Omega.{arith}
use lib.Dec.{leb, ltb}
use lib.ListN.{length, take, drop, length-append, length-drop, get_or-append}
use lib.Seq.{get_or-append-add, get_or-drop, take-length}
use borrow.Author.Tests.{leb-true, leb-false, ltb-true, ltb-false}
use Rattle.base.specs.Lists.{concat, range}
use Rattle.base.proofs.Booleans.{and_left, and_right}
use Rattle.base.proofs.Lists.{length-range}
use Rattle.base.proofs.Counts.{count, Same, same_length}
use Rattle.base.proofs.Graph.{Graph}
use Rattle.matrix.specs.Matrix.{neighbours}
use Rattle.matrix.proofs.Matrix.{graph}
use Rattle.levels.specs.Levels.{own_levels}
use Rattle.levels.proofs.Proper.{Proper, proper-range, proper-same, proper-left, proper-right}
use Rattle.levels.proofs.Own.{own_same}
use Rattle.plan.specs.Groups.{Group, Plan}
use Rattle.plan.specs.Sound.{max_depth, stretch_of}
use Rattle.plan.specs.Depths.{group_at}
use Rattle.extents.specs.Extents.{Policy}
use Rattle.race.specs.Loads.{load_of}
use Rattle.race.specs.Planner.{Planner, Pair, nothing, ◌then◌, leaf, pairs, splits, split, plan_group, whole_of, plan_rows, plan}
use Rattle.race.specs.PlannedLeaves.{PlannedLeaves}
use Rattle.race.proofs.Tiles.{Tiles, done, more, pairs_tile}
use Rattle.race.proofs.Parts.{Part, parts, all_rows, record_of, plan_parts, plan_pairs-parts, tiles-rows}
use Rattle.race.proofs.Placed.{Placed, placed-left, placed-right}
use Rattle.race.proofs.PlannedSound.{limits}
use Rattle.race.proofs.Planned.{Planned, Plans, group_planned}

-- no record of gs has the parent i
abbrev Free : ℕ → List Group → Type 0
Free i gs = (c : ℕ) → c < length gs → (group_at gs c).parent ≡ i → ⊥

free-left : (i : ℕ) (xs ys : List Group) → Free i (xs ++ ys) → Free i xs
free-left i xs ys f c l e = f c (rw length-append (omega arith)) (ap (λ (g : Group). g.parent) (get_or-append xs ys _ c l) ∙ e)

free-right : (i : ℕ) (xs ys : List Group) → Free i (xs ++ ys) → Free i ys
free-right i xs ys f c l e = f (length xs + c) (rw length-append (omega arith)) (ap (λ (g : Group). g.parent) (get_or-append-add xs ys c _) ∙ e)

module _ (adj : ℕ → List ℕ) (n : ℕ) (policy : Policy) (graph : Graph adj n) (some : 1 ≤ policy.reach) where
  abbrev reach : ℕ
  reach = policy.reach

  abbrev Unsplit : Group → List ℕ → Type 0
  Unsplit g T = (g.workers < 2) ⊎ ((max_depth ≤ g.depth) ⊎ (length (own_levels adj reach n T) < 2 * reach))

  -- the records gs from index on, of which those of `kids` may be children, in an order that has these rows at start
  abbrev Ruled : (start index : ℕ) (order : List ℕ) (gs kids : List Group) → Type 0
  Ruled start index order gs kids = (O : List ℕ) → Placed O start order → (k : ℕ) → k < length gs → Free (index + k) kids → Unsplit (group_at gs k) (stretch_of O (group_at gs k))

  -- a planner whose leaves are by the rule
  abbrev Rules : (stages : ℕ) → Planner → Type 0
  Rules stages child = (index : ℕ) (g : Group) (T : List ℕ) → Proper n T → g.length ≡ length T → g.depth + stages ≡ max_depth
      → Ruled g.start index (child index g T).order (child index g T).groups (drop 1 (child index g T).groups)

  -- a leaf by the rule
  leaf_ruled : (index : ℕ) (g : Group) (T : List ℕ) → g.length ≡ length T → Unsplit g T → Ruled g.start index T (g ∷ []) []
  unfolding stretch_of
  leaf_ruled index g T len u O p zero l f = subst (Unsplit g) (sym p ∙ ap (λ (m : ℕ). take m (drop g.start O)) (sym len)) u
  leaf_ruled index g T len u O p (suc k) l f = absurd (omega arith)

  -- the parts of a group, each planned so
  parts_ruled : (stages : ℕ) (child : Planner) → Plans adj n policy stages child → Rules stages child → (up depth start index : ℕ) (xs : List Part) → depth + stages ≡ max_depth → Proper n (all_rows xs)
      → let pl = plan_parts child up depth start index xs in Ruled start index pl.order pl.groups pl.groups
  unfolding nothing ◌then◌
  parts_ruled stages child plans rules up depth start index [] d pr O p k l f = absurd (omega arith)
  parts_ruled stages child plans rules up depth start index (x ∷ xs) d pr O p k l f =
      go (ltb k (length a.groups)) refl (parts_ruled stages child plans rules up depth (start + length x.rows) (index + length a.groups) xs d (proper-right n x.rows (all_rows xs) pr))
    where
      g : Group
      g = record_of up depth start x

      mine : Proper n x.rows
      mine = proper-left n x.rows (all_rows xs) pr

      a : Plan
      a = child index g x.rows

      r : Plan
      r = plan_parts child up depth (start + length x.rows) (index + length a.groups) xs

      here : Planned adj n policy stages index g x.rows a
      here = plans index g x.rows mine refl

      -- the records after its own
      tail_free : (i : ℕ) → Free i (a.groups ++ r.groups) → Free i (drop 1 a.groups)
      tail_free i h =
          let (below, shape, fine) = here in
          let both : a.groups ≡ (g ∷ []) ++ drop 1 a.groups = subst (λ (gs : List Group). gs ≡ (g ∷ []) ++ drop 1 gs) (sym shape) refl in
          free-right i (g ∷ []) (drop 1 a.groups) (subst (Free i) both (free-left i a.groups r.groups h))

      rest : Placed O (start + length x.rows) r.order
      rest = let (below, shape, fine) = here in subst (λ (m : ℕ). Placed O (start + m) r.order) (same_length a.order x.rows fine.same) (placed-right O start a.order r.order p)

      Goal : Group → Type 0
      Goal h = Unsplit h (stretch_of O h)

      go : (b : Bool) → ltb k (length a.groups) ≡ b → Ruled (start + length x.rows) (index + length a.groups) r.order r.groups r.groups → Goal (group_at (a.groups ++ r.groups) k)
      go true t ih =
          let lk = ltb-true k (length a.groups) t in
          subst Goal (sym (get_or-append a.groups r.groups _ k lk))
          (rules index g x.rows mine refl d O (placed-left O start a.order r.order p) k lk (tail_free (index + k) f))
      go false t ih =
          let lk = ltb-false k (length a.groups) t in
          let m = k - length a.groups in
          let e : k ≡ length a.groups + m = omega arith in
          let i : index + k ≡ index + length a.groups + m = omega arith in
          subst Goal (sym (ap (λ (y : ℕ). group_at (a.groups ++ r.groups) y) e ∙ get_or-append-add a.groups r.groups m _))
          (ih O rest m (omega (arith, length-append a.groups r.groups)) (subst (λ (y : ℕ). Free y r.groups) i (free-right (index + k) a.groups r.groups f)))

  -- a group that is split has a child
  has-child : (stages : ℕ) (child : Planner) → Plans adj n policy stages child → (up depth start index : ℕ) (xs : List Part) → Proper n (all_rows xs) → 1 ≤ length xs → Free up (plan_parts child up depth start index xs).groups → ⊥
  unfolding nothing ◌then◌
  has-child stages child plans up depth start index [] pr l f = omega arith
  has-child stages child plans up depth start index (x ∷ xs) pr l f =
      let a = child index (record_of up depth start x) x.rows in
      let (below, shape, fine) = plans index (record_of up depth start x) x.rows (proper-left n x.rows (all_rows xs) pr) refl in
      let mine : Free up a.groups = free-left up a.groups _ f in
      subst (Free up) shape mine 0 (omega arith) refl

  some-parts : {free : ℕ} {ls : List (List ℕ)} {cs : List Pair} (f : ℕ) → Tiles reach free ls cs → 1 ≤ length ls → 1 ≤ length (parts f cs)
  some-parts f done l = absurd (omega arith)
  some-parts f (more c m w a b d e g t) l = omega arith

  -- what is not split
  by_rule : (g : Group) (T : List ℕ) → splits reach g (own_levels adj reach n T) ≡ false → Unsplit g T
  unfolding splits
  by_rule g T h = go (leb 2 g.workers) refl (leb (2 * reach) (length (own_levels adj reach n T))) refl h
    where
      go : (a : Bool) → leb 2 g.workers ≡ a → (b : Bool) → leb (2 * reach) (length (own_levels adj reach n T)) ≡ b → a && b ≡ false → Unsplit g T
      go false e b f h = inl (leb-false 2 g.workers e)
      go true e false f h = inr (inr (leb-false (2 * reach) (length (own_levels adj reach n T)) f))
      go true e true f h = absurd (true≢false h)

  -- what is split
  split_ruled : (stages : ℕ) (child : Planner) → Plans adj n policy stages child → Rules stages child → (index : ℕ) (g : Group) (T : List ℕ) → Proper n T → g.depth + suc stages ≡ max_depth
      → splits reach g (own_levels adj reach n T) ≡ true → let pl = split adj child policy index g (own_levels adj reach n T) in Ruled g.start index pl.order pl.groups (drop 1 pl.groups)
  unfolding splits split leaf ◌then◌
  split_ruled stages child plans rules index g T pr d ok =
      subst (λ (q : Plan). Ruled g.start index q.order (g ∷ q.groups) q.groups) (sym (plan_pairs-parts child index (g.depth + 1) g.start g.first (index + 1) cs)) ruled
    where
      ls : List (List ℕ)
      ls = own_levels adj reach n T

      cs : List Pair
      cs = pairs adj (length ls) g.workers (load_of adj (concat ls)) policy g.workers ls

      xs : List Part
      xs = parts g.first cs

      long : 2 * reach ≤ length ls
      long = leb-true (2 * reach) (length ls) (and_right (leb 2 g.workers) (leb (2 * reach) (length ls)) ok)

      tile : Tiles reach g.workers ls cs
      tile =
          let w : 2 ≤ g.workers = leb-true 2 g.workers (and_left (leb 2 g.workers) (leb (2 * reach) (length ls)) ok) in
          pairs_tile adj policy some (length ls) g.workers (load_of adj (concat ls)) g.workers ls (omega arith) long (omega arith)

      proper : Proper n (all_rows xs)
      proper = proper-same n (all_rows xs) T (λ v. ap (λ (l : List ℕ). count v l) (tiles-rows g.first tile) ∙ own_same adj reach n graph T pr v) pr

      pl : Plan
      pl = plan_parts child index (g.depth + 1) g.start (index + 1) xs

      ruled : Ruled g.start index pl.order (g ∷ pl.groups) pl.groups
      ruled O p zero l f =
          let e : index + 0 ≡ index = omega arith in
          absurd (has-child stages child plans index (g.depth + 1) g.start (index + 1) xs proper (some-parts g.first tile (omega (arith, long))) (subst (λ (y : ℕ). Free y pl.groups) e f))
      ruled O p (suc k) l f =
          let e : index + suc k ≡ index + 1 + k = omega arith in
          parts_ruled stages child plans rules index (g.depth + 1) g.start (index + 1) xs (omega arith) proper O p k (omega arith) (subst (λ (y : ℕ). Free y pl.groups) e f)

  group_ruled : (stages : ℕ) → Rules stages (plan_group adj n policy stages)
  unfolding plan_group leaf
  group_ruled zero index g T pr len d = leaf_ruled index g T len (inr (inl (omega arith)))
  group_ruled (suc s) index g T pr len d = go (splits reach g (own_levels adj reach n T)) refl (group_ruled s)
    where
      ls : List (List ℕ)
      ls = own_levels adj reach n T

      pick : Bool → Plan
      pick b = elim b as (λ x. Plan) [ true ↦ split adj (plan_group adj n policy s) policy index g ls | false ↦ leaf g T ]

      go : (b : Bool) → splits reach g ls ≡ b → Rules s (plan_group adj n policy s) → Ruled g.start index (pick b).order (pick b).groups (drop 1 (pick b).groups)
      go true ok rules = split_ruled s (plan_group adj n policy s) (group_planned adj n policy graph some s) rules index g T pr d ok
      go false ok rules = leaf_ruled index g T len (by_rule g T ok)

  -- ---- the whole

  rows_ruled : (w i : ℕ) → let pl = plan_rows adj n policy w in i < length pl.groups → ((c : ℕ) → 0 < c → c < length pl.groups → (group_at pl.groups c).parent ≡ i → ⊥)
      → Unsplit (group_at pl.groups i) (stretch_of pl.order (group_at pl.groups i))
  unfolding plan_rows
  rows_ruled w i l free =
      group_ruled max_depth 0 (whole_of n w) sorted (proper-same n sorted (range 0 n) same (proper-range n)) (sym (same_length sorted (range 0 n) same ∙ length-range 0 n)) refl
      pl.order (take-length pl.order) i l (λ c m e. free (1 + c) (omega arith) (omega (arith, length-drop 1 pl.groups)) (ap (λ (g : Group). g.parent) (sym (get_or-drop 1 pl.groups c _)) ∙ e ∙ omega arith))
    where
      sorted : List ℕ
      sorted = concat (own_levels adj reach n (range 0 n))

      same : Same sorted (range 0 n)
      same = own_same adj reach n graph (range 0 n) (proper-range n)

      pl : Plan
      pl = plan_rows adj n policy w

-- the theorem
pub planned-leaves : PlannedLeaves
unfolding plan
planned-leaves = record {
  leaves = λ m w p k ok given i l free. rows_ruled (neighbours m) m.n (record { reach = k; p = p }) (graph m ok) (limits w p k given).far.0 w i l free;
}
