-- T's own levels: they hold T's rows as often as T does, and no path of reach joins or fewer links rows of levels more
-- than reach apart.
use mathlib.Core.Path.{◌≡◌, refl, ap, ◌∙◌, fun_ext}
use mathlib.Core.Logic.{◌⊎◌, inl, inr}
use mathlib.Core.Bool.{Bool, true, false}
use mathlib.Core.List.{List, [], ◌∷◌, map}
use Prim.Native.Nat.{ℕ, zero, suc, ◌+◌, ◌*◌, ◌-◌, ◌≤◌, ◌<◌}
use native.Mathlib.Omega.{arith}
use lib.ListN.{get_or, get_or-map}
use Rattle.base.specs.Lists.{filter, is_in, concat, bit}
use Rattle.base.proofs.Booleans.{both_ways}
use Rattle.base.proofs.Lists.{filter_in, filter_passes, concat-filter, concat-trim, trim_at}
use Rattle.base.proofs.Counts.{count, Same, count-filter, count-in, in_count, out_count}
use Rattle.base.specs.Near.{near}
use Rattle.base.proofs.Graph.{Graph}
use Rattle.base.proofs.Near.{alone, near_of, near_cases}
use Rattle.levels.specs.Levels.{region, levels, own_levels}
use Rattle.levels.proofs.Proper.{Proper}
use Rattle.levels.proofs.Members.{own-levels-same}
use Rattle.levels.proofs.Region.{region-own, region-near, region-within, length-region, count-region}
use Rattle.levels.proofs.Close.{levels_close, level_once}
use Rattle.levels.proofs.Reached.{Path, own, through, Fed, reached, levels-count}

-- no path of k joins or fewer links u and v
abbrev pub Beyond : (adj : ℕ → List ℕ) (k u v : ℕ) → Type 0
Beyond adj k u v = near adj k (u ∷ []) v ≡ true → ⊥

module _ (adj : ℕ → List ℕ) (reach n : ℕ) (graph : Graph adj n) (T : List ℕ) (pr : Proper n T) where
  -- a path inside the region leads from each of its rows to T
  path : (k v : ℕ) → k ≤ reach - 1 → near adj k T v ≡ true → Path adj T [] (region adj reach n T) v
  unfolding near
  path zero v le h = own h
  path (suc k) v le h = go (λ u. path k u (omega arith)) (near_cases adj k T v h)
    where
      go : ((u : ℕ) → near adj k T u ≡ true → Path adj T [] (region adj reach n T) u) → (near adj k T v ≡ true) ⊎ ((u : ℕ) × (is_in (adj v) u ≡ true) × (near adj k T u ≡ true))
          → Path adj T [] (region adj reach n T) v
      go ih (inl a) = ih v a
      go ih (inr (u, c, a)) = through u c (region-near adj reach n T k u (omega arith) (graph.below u v c) a) (ih u a)

  fed_region : Fed adj T [] (region adj reach n T)
  fed_region v h = path (reach - 1) v (omega arith) (region-within adj reach n T v h)

  -- every row of the region is at a level
  pub at_level_lem : (v : ℕ) → is_in (region adj reach n T) v ≡ true → (j : ℕ) × (is_in (get_or (levels adj reach n T) j []) v ≡ true)
  unfolding levels
  at_level_lem v h = reached adj T (2 * n) [] (region adj reach n T) fed_region (omega (arith, length-region adj reach n T)) v h

  -- who is on an own level is of T, and on the level of that number
  own_at : (i v : ℕ) → is_in (get_or (own_levels adj reach n T) i []) v ≡ true → (is_in T v ≡ true) × (is_in (get_or (levels adj reach n T) i []) v ≡ true)
  unfolding own_levels
  own_at i v h =
      let k : is_in (filter (is_in T) (get_or (levels adj reach n T) i [])) v ≡ true =
      rw (get_or-map (filter (is_in T)) (levels adj reach n T) i []) at (trim_at (map (filter (is_in T)) (levels adj reach n T)) i v h) in
      (filter_passes (is_in T) (get_or (levels adj reach n T) i []) v k, filter_in (is_in T) (get_or (levels adj reach n T) i []) v k)

  -- the own levels hold T's rows, as often
  pub own_same : Same (concat (own_levels adj reach n T)) T
  unfolding own_levels levels
  own_same v =
      ap (λ (l : List ℕ). count v l) (concat-trim (map (filter (is_in T)) (levels adj reach n T)) ∙ concat-filter (is_in T) (levels adj reach n T))
      ∙ count-filter v (is_in T) (concat (levels adj reach n T))
      ∙ ap (λ (m : ℕ). bit (is_in T v) * m) (levels-count adj T (2 * n) [] (region adj reach n T) fed_region (omega (arith, length-region adj reach n T)) v)
      ∙ go (is_in T v) refl
    where
      go : (b : Bool) → is_in T v ≡ b → bit b * count v (region adj reach n T) ≡ count v T
      go true e =
          omega (arith, in_count v (region adj reach n T) (region-own adj reach n T v (pr.inside v e) e), count-region adj reach n T v, in_count v T e, pr.once v)
      go false e = omega (arith, out_count v T e)

  -- sorted by level, T has the same levels
  pub sorted_levels : own_levels adj reach n (concat (own_levels adj reach n T)) ≡ own_levels adj reach n T
  sorted_levels =
      let sorted = concat (own_levels adj reach n T) in
      own-levels-same adj reach n sorted T
      (fun_ext (λ v. both_ways (is_in sorted v) (is_in T v) (λ h. count-in v T (omega (arith, own_same v, in_count v sorted h))) (λ h. count-in v sorted (omega (arith, own_same v, in_count v T h)))))

  -- a row within k joins of a row of T at level i is at no level above i + k
  rises : (k : ℕ) → k ≤ reach → (i u : ℕ) → is_in T u ≡ true → is_in (get_or (levels adj reach n T) i []) u ≡ true
      → (l v : ℕ) → near adj k (u ∷ []) v ≡ true → is_in (get_or (levels adj reach n T) l []) v ≡ true → l ≤ i + k
  unfolding levels near
  rises zero le i u t hu l v h hv =
      let e : v ≡ u = alone u v h in
      omega (arith, level_once adj T (2 * n) [] (region adj reach n T) i l v (rw e hu) hv)
  rises (suc k) le i u t hu l v h hv = go (λ j x. rises k (omega arith) i u t hu j x) (near_cases adj k (u ∷ []) v h)
    where
      go : ((j x : ℕ) → near adj k (u ∷ []) x ≡ true → is_in (get_or (levels adj reach n T) j []) x ≡ true → j ≤ i + k)
          → (near adj k (u ∷ []) v ≡ true) ⊎ ((x : ℕ) × (is_in (adj v) x ≡ true) × (near adj k (u ∷ []) x ≡ true)) → l ≤ i + suc k
      go ih (inl a) = omega (arith, ih l v a hv)
      go ih (inr (x, c, a)) =
          let own : near adj k T x ≡ true = near_of adj k (u ∷ []) T (λ y m. rw (alone u y m) t) x a in
          let (j, hx) = at_level_lem x (region-near adj reach n T k x (omega arith) (graph.below x v c) own) in
          omega (arith, ih j x a hx, levels_close adj T (2 * n) [] (region adj reach n T) j l x v hx hv c)

  -- no path of reach joins or fewer links rows of own levels more than reach apart
  pub own-beyond : (i j u v : ℕ) → is_in (get_or (own_levels adj reach n T) i []) u ≡ true → is_in (get_or (own_levels adj reach n T) j []) v ≡ true
      → i + reach < j → Beyond adj reach u v
  own-beyond i j u v hu hv far h =
      let (t, lu) = own_at i u hu in
      omega (arith, rises reach (omega arith) i u t lu j v h (own_at j v hv).1)
