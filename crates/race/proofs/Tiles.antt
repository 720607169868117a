-- The pairs of a group tile its levels and its workers, whatever the loads: what is said of them here is all that
-- soundness asks.
use mathlib.Core.Path.{◌≡◌, sym, ◌∙◌, subst}
use mathlib.Core.Logic.{◌⊎◌, inl, inr}
use mathlib.Core.List.{List, [], ◌∷◌, map}
use Prim.Native.Nat.{ℕ, zero, suc, ◌+◌, ◌*◌, ◌-◌, ◌≤◌, ◌<◌}
use native.Mathlib.Omega.{arith}
use lib.ListN.{length, take, drop, length-take, length-drop, length-map}
use Rattle.base.specs.Lists.{concat}
use Rattle.race.specs.Loads.{load_of}
use Rattle.extents.specs.Extents.{Policy, Extent, extent, cut}
use Rattle.race.specs.Planner.{Pair, pairs}
use Rattle.extents.specs.PairLevels.{PairTakes}
use Rattle.extents.proofs.Extents.{extent-taken, cut-levels}

-- cs are pairs of the levels ls, in order, with the free workers: of the first c levels m are red, reach of each colour
-- at least
pub data Tiles (reach : ℕ) : (free : ℕ) → List (List ℕ) → List Pair → Type 0 where
  done : Tiles reach 0 [] []
  more : {free : ℕ} {ls : List (List ℕ)} {cs : List Pair} (c m w : ℕ) → reach ≤ m → m + reach ≤ c → c ≤ length ls → 1 ≤ w → w ≤ free → Tiles reach (free - w) (drop c ls) cs
      → Tiles reach free ls (record { reds = concat (take m (take c ls)); blues = concat (drop m (take c ls)); workers = w } ∷ cs)

module _ (adj : ℕ → List ℕ) (policy : Policy) (some : 1 ≤ policy.reach) where
  -- the cut of a pair of c levels
  cut-taken : (c : ℕ) (ls : List (List ℕ)) → 2 * policy.reach ≤ c → c ≤ length ls
      → (policy.reach ≤ cut policy.reach (map (load_of adj) (take c ls))) × (cut policy.reach (map (load_of adj) (take c ls)) + policy.reach ≤ c)
  cut-taken c ls a b =
      let e : length (map (load_of adj) (take c ls)) ≡ c = length-map (take c ls) (load_of adj) ∙ length-take c ls ∙ omega arith in
      let q = cut-levels policy.reach (map (load_of adj) (take c ls)) (omega arith) in
      (q.0, omega (arith, q.1))

  -- where nothing is left, no pair is
  pairs-none : (k w R free : ℕ) (ls : List (List ℕ)) → free ≡ 0 → length ls ≡ 0 → Tiles policy.reach free ls (pairs adj k w R policy free ls)
  unfolding pairs
  pairs-none k w R free (l ∷ ls) e d = absurd (omega arith)
  pairs-none zero w R free [] e d = subst (λ (f : ℕ). Tiles policy.reach f [] []) (sym e) done
  pairs-none (suc k) w R free [] e d = subst (λ (f : ℕ). Tiles policy.reach f [] []) (sym e) done

  -- the planner's pairs
  pub pairs_tile : (k w R free : ℕ) (ls : List (List ℕ)) → 1 ≤ free → 2 * policy.reach ≤ length ls → length ls ≤ k → Tiles policy.reach free ls (pairs adj k w R policy free ls)
  unfolding pairs
  pairs_tile zero w R free ls f long b = absurd (omega arith)
  pairs_tile (suc k) w R free [] f long b = absurd (omega arith)
  pairs_tile (suc k) w R free (l ∷ ls) f long b =
      go (extent-taken w R policy free (map (load_of adj) (l ∷ ls)) some f (omega (arith, len)))
      (λ f' long' b'. pairs_tile k w R (free - e.workers) (drop e.levels (l ∷ ls)) f' long' b')
    where
      e : Extent
      e = extent w R policy free (map (load_of adj) (l ∷ ls))

      len : length (map (load_of adj) (l ∷ ls)) ≡ length (l ∷ ls)
      len = length-map (l ∷ ls) (load_of adj)

      left : List Pair
      left = pairs adj k w R policy (free - e.workers) (drop e.levels (l ∷ ls))

      first : PairTakes policy.reach (length (map (load_of adj) (l ∷ ls))) free e → e.levels ≤ length (l ∷ ls) → e.workers ≤ free → Tiles policy.reach (free - e.workers) (drop e.levels (l ∷ ls)) left
          → Tiles policy.reach free (l ∷ ls) (pairs adj (suc k) w R policy free (l ∷ ls))
      first t c v ts =
          let q = cut-taken e.levels (l ∷ ls) t.long c in
          more e.levels (cut policy.reach (map (load_of adj) (take e.levels (l ∷ ls)))) e.workers q.0 q.1 c t.some v ts

      go : PairTakes policy.reach (length (map (load_of adj) (l ∷ ls))) free e
          → (1 ≤ free - e.workers → 2 * policy.reach ≤ length (drop e.levels (l ∷ ls)) → length (drop e.levels (l ∷ ls)) ≤ k → Tiles policy.reach (free - e.workers) (drop e.levels (l ∷ ls)) left)
          → Tiles policy.reach free (l ∷ ls) (pairs adj (suc k) w R policy free (l ∷ ls))
      go t ih = by t.rest
        where
          by : ((e.levels ≡ length (map (load_of adj) (l ∷ ls))) × (e.workers ≡ free)) ⊎ ((e.levels + 2 * policy.reach ≤ length (map (load_of adj) (l ∷ ls))) × (e.workers < free))
              → Tiles policy.reach free (l ∷ ls) (pairs adj (suc k) w R policy free (l ∷ ls))
          by (inl (x, y)) =
              first t (omega (arith, len)) (omega arith)
              (pairs-none k w R (free - e.workers) (drop e.levels (l ∷ ls)) (omega arith) (omega (arith, length-drop e.levels (l ∷ ls), len)))
          by (inr (x, y)) =
              first t (omega (arith, len)) (omega arith)
              (ih (omega arith) (omega (arith, length-drop e.levels (l ∷ ls), len)) (omega (arith, length-drop e.levels (l ∷ ls), t.long)))
