-- Every planned group is fine, and the plan of a graph is sound.
use mathlib.Core.Path.{◌≡◌, refl, sym, ap, ◌∙◌, subst}
use mathlib.Core.Bool.{Bool, true, false}
use mathlib.Core.List.{List, [], ◌∷◌, ◌++◌, append-nil}
use Prim.Native.Nat.{ℕ, zero, suc, ◌+◌, ◌*◌, ◌≤◌, ◌<◌}
use native.Mathlib.Omega.{arith}
use lib.Dec.{leb}
use lib.ListN.{length}
use lib.Seq.{take-length}
use borrow.Author.Tests.{eq-eqb, leb-true, le-leb}
use Rattle.base.specs.Lists.{concat, range}
use Rattle.base.proofs.Booleans.{and_left, and_right}
use Rattle.base.proofs.Lists.{length-range}
use Rattle.base.proofs.Counts.{count, Same, same_length}
use Rattle.base.proofs.Graph.{Graph}
use Rattle.levels.specs.Levels.{own_levels}
use Rattle.levels.proofs.Proper.{Proper, proper-range, proper-same, proper-left, proper-right}
use Rattle.levels.proofs.Own.{Beyond, own_same, own-beyond}
use Rattle.plan.specs.Groups.{Group, Plan}
use Rattle.plan.specs.Sound.{max_workers, max_depth, max_groups, each_once, depth_first, beyond, all_sound, sound}
use Rattle.plan.proofs.Once.{same_once}
use Rattle.extents.specs.Extents.{Policy}
use Rattle.race.specs.Loads.{load_of}
use Rattle.race.specs.Planner.{Planner, nothing, ◌then◌, leaf, pairs, plan_pairs, splits, split, plan_group, whole_of, plan_rows}
use Rattle.race.proofs.Tiles.{Tiles, pairs_tile}
use Rattle.race.proofs.Parts.{Part, parts, all_rows, record_of, plan_parts, plan_pairs-parts, tiles-rows, tiles-tiled, tiles-groups}
use Rattle.race.proofs.Colours.{tiles-apart}
use Rattle.race.proofs.Fine.{per_worker, Fine, Kids, kids_none, kids_more, fine-leaf, fine-split}

module _ (adj : ℕ → List ℕ) (n : ℕ) (policy : Policy) where
  abbrev reach : ℕ
  reach = policy.reach

  -- the plan of the group g is its record, and fine below it
  abbrev pub Planned : (stages index : ℕ) (g : Group) (T : List ℕ) → Plan → Type 0
  Planned stages index g T pl = (below : List Group) × (pl.groups ≡ g ∷ below) × Fine adj reach stages index g T pl.order below

  -- a planner whose plans are so
  abbrev pub Plans : (stages : ℕ) → Planner → Type 0
  Plans stages child = (index : ℕ) (g : Group) (T : List ℕ) → Proper n T → g.length ≡ length T → Planned stages index g T (child index g T)

  -- the parts of a group, each planned
  parts_kids : (stages : ℕ) (child : Planner) → Plans stages child → (up depth start index : ℕ) (xs : List Part) → up < index → Proper n (all_rows xs)
      → let pl = plan_parts child up depth start index xs in Kids adj reach stages up depth start index xs pl.order pl.groups
  unfolding nothing ◌then◌
  parts_kids stages child plans up depth start index [] lt pr = kids_none adj reach stages up depth start index
  parts_kids stages child plans up depth start index (x ∷ xs) lt pr =
      let a = child index (record_of up depth start x) x.rows in
      let r = plan_parts child up depth (start + length x.rows) (index + length a.groups) xs in
      let (below, shape, fine) = plans index (record_of up depth start x) x.rows (proper-left n x.rows (all_rows xs) pr) refl in
      let rest : Kids adj reach stages up depth (start + length x.rows) (index + length a.groups) xs r.order r.groups
      = parts_kids stages child plans up depth (start + length x.rows) (index + length a.groups) xs (omega arith) (proper-right n x.rows (all_rows xs) pr) in
      subst (λ (gs : List Group). Kids adj reach stages up depth start index (x ∷ xs) (a.order ++ r.order) (gs ++ r.groups)) (sym shape)
      (kids_more adj reach stages up depth start index x xs a.order r.order below r.groups lt fine
      (subst (λ (gs : List Group). Kids adj reach stages up depth (start + length x.rows) (index + length gs) xs r.order r.groups) shape rest))

  module _ (graph : Graph adj n) (some : 1 ≤ policy.reach) where
    -- a group that is split
    split-planned : (stages : ℕ) (child : Planner) → Plans stages child → (index : ℕ) (g : Group) (T : List ℕ) → Proper n T → g.length ≡ length T
        → splits reach g (own_levels adj reach n T) ≡ true → Planned (suc stages) index g T (split adj child policy index g (own_levels adj reach n T))
    unfolding splits split leaf ◌then◌
    split-planned stages child plans index g T pr len ok =
        let ls = own_levels adj reach n T in
        let w : 2 ≤ g.workers = leb-true 2 g.workers (and_left (leb 2 g.workers) (leb (2 * reach) (length ls)) ok) in
        let long : 2 * reach ≤ length ls = leb-true (2 * reach) (length ls) (and_right (leb 2 g.workers) (leb (2 * reach) (length ls)) ok) in
        let cs = pairs adj (length ls) g.workers (load_of adj (concat ls)) policy g.workers ls in
        let tile : Tiles reach g.workers ls cs = pairs_tile adj policy some (length ls) g.workers (load_of adj (concat ls)) g.workers ls (omega arith) long (omega arith) in
        let xs = parts g.first cs in
        let same : Same (all_rows xs) T = λ v. ap (λ (l : List ℕ). count v l) (tiles-rows g.first tile) ∙ own_same adj reach n graph T pr v in
        let kids = parts_kids stages child plans index (g.depth + 1) g.start (index + 1) xs (omega arith) (proper-same n (all_rows xs) T same pr) in
        let pl = plan_pairs child index (g.depth + 1) g.start g.first (index + 1) cs in
        let fine : Fine adj reach (suc stages) index g T pl.order pl.groups
        = subst (λ (q : Plan). Fine adj reach (suc stages) index g T q.order q.groups) (sym (plan_pairs-parts child index (g.depth + 1) g.start g.first (index + 1) cs))
        (fine-split adj reach stages index g T xs _ _ kids same
        (tiles-tiled g index (g.depth + 1) g.start g.first tile (omega (arith, same_length (all_rows xs) T same)) refl)
        (tiles-apart (Beyond adj reach) g.first tile (own-beyond adj reach n graph T pr))
        (tiles-groups (per_worker stages) g.first tile)) in
        (pl.groups, refl, fine)

    -- every group
    pub group_planned : (stages : ℕ) → Plans stages (plan_group adj n policy stages)
    unfolding plan_group leaf
    group_planned zero index g T pr len = ([], refl, fine-leaf adj reach zero index g T)
    group_planned (suc s) index g T pr len = go (splits reach g (own_levels adj reach n T)) refl (group_planned s)
      where
        go : (b : Bool) → splits reach g (own_levels adj reach n T) ≡ b → Plans s (plan_group adj n policy s)
            → Planned (suc s) index g T (elim b as (λ x. Plan) [ true ↦ split adj (plan_group adj n policy s) policy index g (own_levels adj reach n T) | false ↦ leaf g T ])
        go true ok plans = split-planned s (plan_group adj n policy s) plans index g T pr len ok
        go false ok plans = ([], refl, fine-leaf adj reach (suc s) index g T)

    -- ---- the whole

    -- its rows in their order
    abbrev sorted : List ℕ
    sorted = concat (own_levels adj reach n (range 0 n))

    sorted_same : Same sorted (range 0 n)
    sorted_same = own_same adj reach n graph (range 0 n) (proper-range n)

    -- the whole
    rows-planned : (w : ℕ) → Planned max_depth 0 (whole_of n w) sorted (plan_rows adj n policy w)
    unfolding plan_rows
    rows-planned w =
        group_planned max_depth 0 (whole_of n w) sorted (proper-same n sorted (range 0 n) sorted_same (proper-range n))
        (sym (same_length sorted (range 0 n) sorted_same ∙ length-range 0 n))

    -- at most 1 + 16 × 30 groups
    pub rows_few : (w : ℕ) → w ≤ max_workers → length (plan_rows adj n policy w).groups ≤ 481
    rows_few w hi = let (below, shape, fine) = rows-planned w in omega (arith, ap (λ (gs : List Group). length gs) shape, fine.few)

    -- the plan passes the test of soundness
    pub rows-sound : (w : ℕ) → 1 ≤ w → w ≤ max_workers → sound (beyond adj reach) n (plan_rows adj n policy w).order (plan_rows adj n policy w).groups ≡ true
    unfolding sound depth_first
    rows-sound w lo hi =
        let (below, shape, fine) = rows-planned w in
        let O = (plan_rows adj n policy w).order in
        let each : each_once n O ≡ true = same_once n O (λ v. fine.same v ∙ sorted_same v) in
        let all : all_sound (beyond adj reach) O below 0 (whole_of n w ∷ below) ≡ true = fine.sound O below (take-length O) (λ i a b. refl) in
        let (out, above, walk) = fine.walked [] [] refl (omega arith) in
        let deep : depth_first (0 ∷ []) 1 below ≡ true = ap (λ (l : List Group). depth_first (0 ∷ []) 1 l) (sym (append-nil below)) ∙ walk in
        let few : suc (length below) ≤ max_groups = omega (arith, fine.few) in
        ap (λ (l : List Group). sound (beyond adj reach) n O l) shape
        ∙ rw (each, eq-eqb n n refl, le-leb 1 w lo, le-leb w max_workers hi, le-leb (suc (length below)) max_groups few, deep, all) refl
