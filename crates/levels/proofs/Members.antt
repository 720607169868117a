-- A group's levels depend on who is in it, not on its order. A group's rows in ascending order are as many.
use mathlib.Core.Path.{◌≡◌, refl, ap, ◌∙◌, fun_ext}
use mathlib.Core.Bool.{Bool, not}
use mathlib.Core.List.{List, [], ◌∷◌, map}
use Prim.Native.Nat.{ℕ, zero, suc, ◌*◌, ◌≤◌}
use native.Mathlib.Omega.{arith}
use lib.ListN.{length}
use Rattle.base.specs.Lists.{filter, is_in, range, trim}
use Rattle.base.proofs.Booleans.{both_ways}
use Rattle.base.proofs.Lists.{filter_passes, filter-of, is_in-range}
use Rattle.base.proofs.Counts.{once-length, once-short}
use Rattle.base.proofs.Near.{near_same}
use Rattle.levels.specs.Code.Group.{Proper}
use Rattle.levels.specs.Levels.{region, is_next, levels_from, levels, own_levels}
use Rattle.levels.proofs.Root.{root-same}

module _ (adj : ℕ → List ℕ) (reach n : ℕ) (S T : List ℕ) (same : is_in S ≡ is_in T) where
  region-same : region adj reach n S ≡ region adj reach n T
  unfolding region
  region-same = ap (λ (p : ℕ → Bool). filter p (range 0 n)) (near_same adj _ S T same)

  next-same : (last rest : List ℕ) → is_next adj S last rest ≡ is_next adj T last rest
  unfolding is_next
  next-same [] rest = fun_ext (λ v. ap (λ (l : List ℕ). is_in l v) (root-same adj S T same rest))
  next-same (x ∷ xs) rest = fun_ext (λ v. refl)

  from-same : (k : ℕ) (last rest : List ℕ) → levels_from adj k S last rest ≡ levels_from adj k T last rest
  unfolding levels_from
  from-same zero last rest = refl
  from-same (suc k) last rest =
      ap (λ (p : ℕ → Bool). filter p rest ∷ levels_from adj k S (filter p rest) (filter (λ v. not (p v)) rest)) (next-same last rest)
      ∙ ap (λ (ls : List (List ℕ)). filter (is_next adj T last rest) rest ∷ ls) (from-same k _ _)

  pub levels-same : levels adj reach n S ≡ levels adj reach n T
  unfolding levels
  levels-same = ap (levels_from adj (2 * n) S []) region-same ∙ from-same (2 * n) [] (region adj reach n T)

  pub own-levels-same : own_levels adj reach n S ≡ own_levels adj reach n T
  unfolding own_levels
  own-levels-same = ap (λ (p : ℕ → Bool). trim (map (filter p) (levels adj reach n S))) same ∙ ap (λ (ls : List (List ℕ)). trim (map (filter (is_in T)) ls)) levels-same

-- T's rows, ascending
module _ {n : ℕ} {T : List ℕ} (pr : Proper n T) where
  pub own_in : is_in (filter (is_in T) (range 0 n)) ≡ is_in T
  own_in = fun_ext (λ v. both_ways (is_in (filter (is_in T) (range 0 n)) v) (is_in T v)
      (filter_passes (is_in T) (range 0 n) v)
      (λ h. filter-of (is_in T) (range 0 n) v (is_in-range 0 n v (omega arith) (omega (arith, pr.inside v h))) h))

  pub own-length : length (filter (is_in T) (range 0 n)) ≡ length T
  own-length = once-length n T pr.inside pr.once

  -- no more rows than there are
  pub proper-short : length T ≤ n
  proper-short = once-short n T pr.inside pr.once

-- who is in T is in T's rows in ascending order
module _ {n : ℕ} {T own : List ℕ} (pr : Proper n T) (e : own ≡ filter (is_in T) (range 0 n)) where
  pub own_same : is_in own ≡ is_in T
  own_same = ap is_in e ∙ own_in pr
