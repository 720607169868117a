-- The pairs of a group, one at a time: the next pair's rows and workers, and the pairs after it.
use mathlib.Core.Path.{◌≡◌, refl, sym, ◌∙◌}
use mathlib.Core.Logic.{◌⊎◌, inl, inr}
use mathlib.Core.List.{List, [], ◌∷◌, map}
use Prim.Native.Nat.{ℕ, zero, suc, ◌+◌, ◌*◌, ◌-◌, ◌≤◌, ◌<◌}
use native.Mathlib.Omega.{arith}
use lib.ListN.{length, take, drop, length-map, length-drop, drop_of_length-le}
use lib.Seq.{length-take-le}
use Rattle.base.specs.Lists.{concat}
use Rattle.race.specs.Loads.{load_of}
use Rattle.extents.specs.Extents.{Policy, Extent, extent, cut}
use Rattle.extents.specs.Code.Scans.{policy_of}
use Rattle.extents.specs.declared.policy.Policy as code
use Rattle.race.specs.Planner.{pairs}
use Rattle.extents.specs.PairLevels.{PairTakes}
use Rattle.extents.proofs.Extents.{extent-taken, cut-levels}

-- a pair takes no more than there is
pub taken-most : {reach all free : ℕ} {e : Extent} → PairTakes reach all free e → (e.levels ≤ all) × (e.workers ≤ free)
taken-most {reach} {all} {free} {e} t = go t.rest
  where
    go : ((e.levels ≡ all) × (e.workers ≡ free)) ⊎ ((e.levels + 2 * reach ≤ all) × (e.workers < free)) → (e.levels ≤ all) × (e.workers ≤ free)
    go (inl h) = (omega arith, omega arith)
    go (inr h) = (omega arith, omega arith)

-- the next pair has at least 2 × reach levels, and at least reach of each colour
pub record Bounds (reach all levels red : ℕ) : Type 0 where
  pub some : 2 * reach ≤ levels
  pub most : levels ≤ all
  pub reds : reach ≤ red
  pub blues : red + reach ≤ levels

pub pair_bounds : (w R : ℕ) (policy : Policy) (free : ℕ) (qs : List ℕ) (levels c : ℕ) → 1 ≤ policy.reach → 1 ≤ free → 2 * policy.reach ≤ length qs → levels ≡ (extent w R policy free qs).levels → c ≡ cut policy.reach (take levels qs)
    → Bounds policy.reach (length qs) levels c
pair_bounds w R policy free qs levels c some f l e d =
    let t = extent-taken w R policy free qs some f l in
    let most : levels ≤ length qs = omega (arith, taken-most t) in
    let long : length (take levels qs) ≡ levels = length-take-le levels qs most in
    let b = cut-levels policy.reach (take levels qs) (omega (arith, t.long)) in
    record { some = omega (arith, t.long); most = most; reds = omega arith; blues = omega arith }

-- what the code finds of the next pair
module _ (w R free : ℕ) (qs : List ℕ) (policy : code.Policy) (long : 2 * policy.reach ≤ length qs) (free-some : 1 ≤ free) {levels : ℕ}
    (e : levels ≡ (extent w R (policy_of policy) free qs).levels) where
  pub levels-found : (2 * policy.reach ≤ levels) × (levels ≤ length qs)
  levels-found =
      let t = extent-taken w R (policy_of policy) free qs policy.some free-some long in
      (omega (arith, t.long, e), omega (arith, taken-most t, e))

  pub bounds_found : {c : ℕ} → c ≡ cut policy.reach (take levels qs) → Bounds policy.reach (length qs) levels c
  bounds_found {c} d = pair_bounds w R (policy_of policy) free qs levels c policy.some free-some long e d

module _ (adj : ℕ → List ℕ) (w R : ℕ) (policy : Policy) (some : 1 ≤ policy.reach) where
  -- the next pair's extent
  abbrev pub extent_of : (free : ℕ) → List (List ℕ) → Extent
  extent_of free ls = extent w R policy free (map (load_of adj) ls)

  -- how many of its levels are red
  abbrev pub cut_of : (levels : ℕ) → List (List ℕ) → ℕ
  cut_of levels ls = cut policy.reach (map (load_of adj) (take levels ls))

  -- it takes at least 2 × reach levels and a worker, and leaves as much or nothing
  pub extent-of : (free : ℕ) (ls : List (List ℕ)) → 1 ≤ free → 2 * policy.reach ≤ length ls → PairTakes policy.reach (length ls) free (extent_of free ls)
  extent-of free ls f l = rw (length-map ls (load_of adj)) at (extent-taken w R policy free (map (load_of adj) ls) some f (rw (length-map ls (load_of adj)) l))

  pairs-none : (k free : ℕ) → pairs adj k w R policy free [] ≡ []
  unfolding pairs
  pairs-none zero free = refl
  pairs-none (suc k) free = refl

  -- what two bounds give for the levels past a pair
  rest-enough : (j k free : ℕ) (ls : List (List ℕ)) (e : Extent) → PairTakes policy.reach (length ls) free e → length (drop e.levels ls) ≤ j → length (drop e.levels ls) ≤ k
      → ((free : ℕ) (ls : List (List ℕ)) → length ls ≤ j → length ls ≤ k → 1 ≤ free → 2 * policy.reach ≤ length ls → pairs adj j w R policy free ls ≡ pairs adj k w R policy free ls)
      → pairs adj j w R policy (free - e.workers) (drop e.levels ls) ≡ pairs adj k w R policy (free - e.workers) (drop e.levels ls)
  rest-enough j k free ls e t a b same = go t.rest
    where
      go : ((e.levels ≡ length ls) × (e.workers ≡ free)) ⊎ ((e.levels + 2 * policy.reach ≤ length ls) × (e.workers < free))
          → pairs adj j w R policy (free - e.workers) (drop e.levels ls) ≡ pairs adj k w R policy (free - e.workers) (drop e.levels ls)
      go (inl h) =
          rw (drop_of_length-le ls {i = e.levels} (omega arith)) (pairs-none j (free - e.workers) ∙ sym (pairs-none k (free - e.workers)))
      go (inr h) =
          let left : length (drop e.levels ls) ≡ length ls - e.levels = length-drop e.levels ls in
          same (free - e.workers) (drop e.levels ls) a b (omega arith) (omega arith)

  -- how many pairs there may be does not matter
  pairs-enough : (j k free : ℕ) (ls : List (List ℕ)) → length ls ≤ j → length ls ≤ k → 1 ≤ free → 2 * policy.reach ≤ length ls
      → pairs adj j w R policy free ls ≡ pairs adj k w R policy free ls
  unfolding pairs
  pairs-enough zero k free ls a b f l = absurd (omega arith)
  pairs-enough (suc j) zero free ls a b f l = absurd (omega arith)
  pairs-enough (suc j) (suc k) free [] a b f l = absurd (omega arith)
  pairs-enough (suc j) (suc k) free (x ∷ ls) a b f l =
      let e = extent_of free (x ∷ ls) in
      let t = extent-of free (x ∷ ls) f l in
      let left : length (drop e.levels (x ∷ ls)) ≡ suc (length ls) - e.levels = length-drop e.levels (x ∷ ls) in
      rw (rest-enough j k free (x ∷ ls) e t (omega (arith, t.long)) (omega (arith, t.long)) (pairs-enough j k))

  -- the next pair, and those in the levels and workers that it leaves
  pub pairs_next : (free : ℕ) (ls : List (List ℕ)) → 1 ≤ free → 2 * policy.reach ≤ length ls
      → let e = extent_of free ls in
      let mine = take e.levels ls in
      let c = cut_of e.levels ls in
      let rest = drop e.levels ls in
      pairs adj (length ls) w R policy free ls
      ≡ record { reds = concat (take c mine); blues = concat (drop c mine); workers = e.workers } ∷ pairs adj (length rest) w R policy (free - e.workers) rest
  unfolding pairs
  pairs_next free [] f l = absurd (omega arith)
  pairs_next free (x ∷ ls) f l =
      let e = extent_of free (x ∷ ls) in
      let t = extent-of free (x ∷ ls) f l in
      let rest = drop e.levels (x ∷ ls) in
      let left : length rest ≡ suc (length ls) - e.levels = length-drop e.levels (x ∷ ls) in
      rw (rest-enough (length ls) (length rest) free (x ∷ ls) e t (omega (arith, t.long)) (omega arith) (pairs-enough (length ls) (length rest)))
