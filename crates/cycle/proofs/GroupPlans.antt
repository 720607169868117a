-- The plan of one group: a leaf, or its record and the plans of its pairs.
use mathlib.Core.Path.{◌≡◌, refl, sym, ap, ◌∙◌}
use mathlib.Core.Logic.{◌⊎◌, inl, inr}
use mathlib.Core.Bool.{Bool, true, false}
use mathlib.Core.List.{List, [], ◌∷◌, ◌++◌, map}
use Prim.Native.Nat.{ℕ, zero, suc, ◌+◌, ◌*◌, ◌-◌, ◌≤◌, ◌<◌}
use native.Mathlib.Omega.{arith}
use lib.Dec.{leb}
use lib.ListN.{length, take, length-map, length-append}
use borrow.Author.Tests.{leb-true, le-leb, lt-leb}
use Rattle.base.specs.Lists.{concat, filter, is_in, trim, trim_cons}
use Rattle.base.proofs.Booleans.{and_right, and_false}
use Rattle.levels.specs.Levels.{own_levels, levels, levels_from, region}
use Rattle.plan.specs.Groups.{Group, Plan, width, fields_of}
use Rattle.extents.specs.Extents.{Policy}
use Rattle.race.specs.Loads.{load_of}
use Rattle.race.specs.Planner.{Pair, pairs, plan_pairs, ◌then◌, leaf, splits, split, plan_group}
use Rattle.cycle.specs.Code.Records.{Holds}
use Rattle.cycle.proofs.Holding.{holds-leaf, holds_then}

-- ---- a group's own levels

levels-count : (adj : ℕ → List ℕ) (k : ℕ) (T last rest : List ℕ) → length (levels_from adj k T last rest) ≡ k
unfolding levels_from
levels-count adj zero T last rest = refl
levels-count adj (suc k) T last rest = ap suc (levels-count adj k T _ _)

trim-le : (ls : List (List ℕ)) → length (trim ls) ≤ length ls
trim-le [] = omega arith
trim-le (l ∷ ls) = go l (trim ls) (trim-le ls)
  where
    go : (l : List ℕ) (ms : List (List ℕ)) → length ms ≤ length ls → length (trim_cons l ms) ≤ suc (length ls)
    go [] [] h = omega arith
    go [] (m ∷ ms) h = omega arith
    go (x ∷ xs) ms h = omega arith

-- a group has at most 2 × n levels
pub own-few : (adj : ℕ → List ℕ) (reach n : ℕ) (T : List ℕ) → length (own_levels adj reach n T) ≤ 2 * n
unfolding own_levels levels
own-few adj reach n T =
    let all = levels adj reach n T in
    omega (arith, trim-le (map (filter (is_in T)) all), length-map all (filter (is_in T)), levels-count adj (2 * n) T [] (region adj reach n T))

trim-some : (ls : List (List ℕ)) → 1 ≤ length (trim ls) → 1 ≤ length (concat (trim ls))
trim-some [] h = absurd (omega arith)
trim-some (l ∷ ls) h = go l (trim ls) (trim-some ls) h
  where
    go : (l : List ℕ) (ms : List (List ℕ)) → (1 ≤ length ms → 1 ≤ length (concat ms)) → 1 ≤ length (trim_cons l ms) → 1 ≤ length (concat (trim_cons l ms))
    go [] [] ih h = absurd (omega arith)
    go [] (m ∷ ms) ih h = ih (omega arith)
    go (x ∷ xs) ms ih h = omega arith

-- .. and rows, if it has levels
pub own-some : (adj : ℕ → List ℕ) (reach n : ℕ) (T : List ℕ) → 1 ≤ length (own_levels adj reach n T) → 1 ≤ length (concat (own_levels adj reach n T))
unfolding own_levels
own-some adj reach n T h = trim-some (map (filter (is_in T)) (levels adj reach n T)) h

-- ---- its plan

splits-both : (reach : ℕ) (g : Group) (ls : List (List ℕ)) → 2 ≤ g.workers → 2 * reach ≤ length ls → splits reach g ls ≡ true
unfolding splits
splits-both reach g ls w l = rw (le-leb 2 g.workers w, le-leb (2 * reach) (length ls) l)

module _ (adj : ℕ → List ℕ) (n : ℕ) (policy : Policy) where
  -- its own record is one of its groups
  pub groups-some : (stages index : ℕ) (g : Group) (T : List ℕ) → 1 ≤ length (plan_group adj n policy stages index g T).groups
  unfolding plan_group leaf split ◌then◌
  groups-some zero index g T = omega arith
  groups-some (suc s) index g T = go (splits policy.reach g (own_levels adj policy.reach n T))
    where
      go : (b : Bool)
          → 1 ≤ length (elim b as (λ x. Plan) [ true ↦ split adj (plan_group adj n policy s) policy index g (own_levels adj policy.reach n T) | false ↦ leaf g T ]).groups
      go true = omega arith
      go false = omega arith

  unsplit : (stages index : ℕ) (g : Group) (T : List ℕ) → splits policy.reach g (own_levels adj policy.reach n T) ≡ false → plan_group adj n policy stages index g T ≡ leaf g T
  unfolding plan_group
  unsplit zero index g T e = refl
  unsplit (suc s) index g T e = rw (e, plan_group)

  -- a leaf: no stage is left, one worker, or too few levels
  pub leaf_stages : (stages index : ℕ) (g : Group) (T : List ℕ) → stages ≡ 0 → plan_group adj n policy stages index g T ≡ leaf g T
  unfolding plan_group
  leaf_stages zero index g T e = refl
  leaf_stages (suc s) index g T e = absurd (omega arith)

  pub leaf-workers : (stages index : ℕ) (g : Group) (T : List ℕ) → g.workers < 2 → plan_group adj n policy stages index g T ≡ leaf g T
  unfolding splits
  leaf-workers stages index g T l = unsplit stages index g T (rw (lt-leb 2 g.workers l))

  pub leaf-levels : (stages index : ℕ) (g : Group) (T : List ℕ) → length (own_levels adj policy.reach n T) < 2 * policy.reach → plan_group adj n policy stages index g T ≡ leaf g T
  unfolding splits
  leaf-levels stages index g T l = unsplit stages index g T (rw (lt-leb (2 * policy.reach) (length (own_levels adj policy.reach n T)) l) (and_false (leb 2 g.workers)))

  -- its record, then its pairs
  abbrev pub pairs_below : (stages index : ℕ) (g : Group) → List (List ℕ) → Plan
  pairs_below stages index g ls =
      plan_pairs (plan_group adj n policy stages) index (g.depth + 1) g.start g.first (index + 1) (pairs adj (length ls) g.workers (load_of adj (concat ls)) policy g.workers ls)

  pub group_split : (stages index : ℕ) (g : Group) (T : List ℕ) → (stages ≡ 0 → ⊥) → 2 ≤ g.workers → 2 * policy.reach ≤ length (own_levels adj policy.reach n T)
      → plan_group adj n policy stages index g T ≡ (leaf g [] then pairs_below (stages - 1) index g (own_levels adj policy.reach n T))
  unfolding plan_group split
  group_split zero index g T s w l = absurd (s refl)
  group_split (suc s) index g T d w l =
      let less : suc s - 1 ≡ s = omega arith in
      rw (splits-both policy.reach g (own_levels adj policy.reach n T) w l, plan_group, less)

  module _ (stages index : ℕ) (g : Group) (T before records : List ℕ) (put : take (width * (index + 1)) records ≡ take (width * index) before ++ fields_of g) where
    -- what the lists hold after a leaf, and after a group that is split
    pub holds_unsplit : plan_group adj n policy stages index g T ≡ leaf g T → Holds (plan_group adj n policy stages index g T) index before T records (index + 1)
    holds_unsplit e = rw e (holds-leaf g T index before records put)

    pub holds-split : (stages ≡ 0 → ⊥) → 2 ≤ g.workers → 2 * policy.reach ≤ length (own_levels adj policy.reach n T) → (order after : List ℕ) (count : ℕ)
        → Holds (pairs_below (stages - 1) index g (own_levels adj policy.reach n T)) (index + 1) records order after count
        → Holds (plan_group adj n policy stages index g T) index before order after count
    holds-split s w l order after count h =
        rw (group_split stages index g T s w l)
        (holds_then (leaf g []) (pairs_below (stages - 1) index g (own_levels adj policy.reach n T)) index (index + 1) count before records after [] order (holds-leaf g [] index before records put) h)

  -- how many groups it has
  pub count-split : (stages index : ℕ) (g : Group) (T : List ℕ) → (stages ≡ 0 → ⊥) → 2 ≤ g.workers → 2 * policy.reach ≤ length (own_levels adj policy.reach n T)
      → length (plan_group adj n policy stages index g T).groups ≡ 1 + length (pairs_below (stages - 1) index g (own_levels adj policy.reach n T)).groups
  unfolding ◌then◌ leaf
  count-split stages index g T s w l = rw (group_split stages index g T s w l) (omega arith)

  -- ---- the same rows in two orders

  split-is : (stages index : ℕ) (g : Group) (T : List ℕ) → splits policy.reach g (own_levels adj policy.reach n T) ≡ true
      → plan_group adj n policy (suc stages) index g T ≡ split adj (plan_group adj n policy stages) policy index g (own_levels adj policy.reach n T)
  unfolding plan_group
  split-is stages index g T e = rw (e, plan_group)

  pairs_first : (w R free : ℕ) (ls : List (List ℕ)) → 1 ≤ length ls → 1 ≤ length (pairs adj (length ls) w R policy free ls)
  unfolding pairs
  pairs_first w R free [] l = absurd (omega arith)
  pairs_first w R free (x ∷ ls) l = omega arith

  then_some : (a b : Plan) → 1 ≤ length a.groups → 1 ≤ length (a then b).groups
  unfolding ◌then◌
  then_some a b h = omega (arith, length-append a.groups b.groups)

  pairs-some : (stages up depth start first index : ℕ) (cs : List Pair) → 1 ≤ length cs → 1 ≤ length (plan_pairs (plan_group adj n policy stages) up depth start first index cs).groups
  unfolding plan_pairs
  pairs-some stages up depth start first index [] l = absurd (omega arith)
  pairs-some stages up depth start first index (c ∷ cs) l = then_some _ _ (groups-some stages index _ c.reds)

  -- a group that is split has more than its own record
  split_more : 1 ≤ policy.reach → (stages index : ℕ) (g : Group) (ls : List (List ℕ)) → splits policy.reach g ls ≡ true → 2 ≤ length (split adj (plan_group adj n policy stages) policy index g ls).groups
  unfolding splits split ◌then◌ leaf
  split_more some stages index g ls e =
      let long : 2 * policy.reach ≤ length ls = leb-true (2 * policy.reach) (length ls) (and_right (leb 2 g.workers) (leb (2 * policy.reach) (length ls)) e) in
      let R = load_of adj (concat ls) in
      let cs = pairs adj (length ls) g.workers R policy g.workers ls in
      omega (arith, pairs-some stages index (g.depth + 1) g.start g.first (index + 1) cs (pairs_first g.workers R g.workers ls (omega arith)))

  -- rows with the same levels: a leaf in both orders, or the same plan, of several groups
  pub two_orders : 1 ≤ policy.reach → (stages index : ℕ) (g : Group) (S T : List ℕ) → own_levels adj policy.reach n S ≡ own_levels adj policy.reach n T
      → let plan = plan_group adj n policy (suc stages) index g in ((plan S ≡ leaf g S) × (plan T ≡ leaf g T)) ⊎ ((plan S ≡ plan T) × (2 ≤ length (plan S).groups))
  two_orders some stages index g S T same = go (splits policy.reach g (own_levels adj policy.reach n T)) refl
    where
      go : (b : Bool) → splits policy.reach g (own_levels adj policy.reach n T) ≡ b
          → let plan = plan_group adj n policy (suc stages) index g in ((plan S ≡ leaf g S) × (plan T ≡ leaf g T)) ⊎ ((plan S ≡ plan T) × (2 ≤ length (plan S).groups))
      go false e = inl (unsplit (suc stages) index g S (ap (splits policy.reach g) same ∙ e), unsplit (suc stages) index g T e)
      go true e =
          let s = split-is stages index g S (ap (splits policy.reach g) same ∙ e) in
          inr (
            s ∙ ap (split adj (plan_group adj n policy stages) policy index g) same ∙ sym (split-is stages index g T e),
            rw (s, same) (split_more some stages index g (own_levels adj policy.reach n T) e),
          )
