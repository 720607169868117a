-- Levels are distances: a row has one, and two adjacent rows have levels that differ by at most 1.
use mathlib.Core.Path.{◌≡◌, sym}
use mathlib.Core.Bool.{true, not, true≢false}
use mathlib.Core.List.{List, [], ◌∷◌}
use Prim.Native.Nat.{ℕ, zero, suc, ◌≤◌, zero-le, suc-le-suc}
use native.Mathlib.Omega.{arith}
use lib.ListN.{get_or}
use Rattle.base.specs.Lists.{is_in}
use Rattle.base.proofs.Booleans.{not-both}
use Rattle.base.proofs.Lists.{filter_in, filter_passes, any_of}
use Rattle.levels.specs.Levels.{is_next, levels_from}

module _ (adj : ℕ → List ℕ) (T : List ℕ) where
  -- v is at level j of the levels that follow
  abbrev pub At : (k : ℕ) (last rest : List ℕ) (j v : ℕ) → Type 0
  At k last rest j v = is_in (get_or (levels_from adj k T last rest) j []) v ≡ true

  -- whoever is at a level was not yet reached
  unreached : (k : ℕ) (last rest : List ℕ) (j v : ℕ) → At k last rest j v → is_in rest v ≡ true
  unfolding levels_from
  unreached zero last rest j v h = absurd (true≢false (sym h))
  unreached (suc k) last rest zero v h = filter_in (is_next adj T last rest) rest v h
  unreached (suc k) last rest (suc j) v h = filter_in (λ u. not (is_next adj T last rest u)) rest v (unreached k _ _ j v h)

  -- whoever is adjacent to the last level is on the next
  far : (k : ℕ) (last rest : List ℕ) (j u v : ℕ) → is_in last u ≡ true → At k last rest (suc j) v → is_in (adj v) u ≡ true → ⊥
  unfolding levels_from is_next
  far zero last rest j u v hu hv c = true≢false (sym hv)
  far (suc k) [] rest j u v hu hv c = true≢false (sym hu)
  far (suc k) (x ∷ xs) rest j u v hu hv c =
      not-both _ (any_of (is_in (x ∷ xs)) (adj v) u c hu)
      (filter_passes (λ y. not (is_next adj T (x ∷ xs) rest y)) rest v (unreached k _ _ j v hv))

  -- adjacent rows: the later level is at most one above the earlier
  pub levels_close : (k : ℕ) (last rest : List ℕ) (i j u v : ℕ) → At k last rest i u → At k last rest j v → is_in (adj v) u ≡ true → j ≤ suc i
  unfolding levels_from
  levels_close zero last rest i j u v hu hv c = absurd (true≢false (sym hv))
  levels_close (suc k) last rest i zero u v hu hv c = zero-le
  levels_close (suc k) last rest zero (suc zero) u v hu hv c = omega arith
  levels_close (suc k) last rest zero (suc (suc j)) u v hu hv c = absurd (far k _ _ j u v hu hv c)
  levels_close (suc k) last rest (suc i) (suc j) u v hu hv c = suc-le-suc (levels_close k _ _ i j u v hu hv c)

  -- nobody is at two levels
  pub level_once : (k : ℕ) (last rest : List ℕ) (i j v : ℕ) → At k last rest i v → At k last rest j v → j ≤ i
  unfolding levels_from
  level_once zero last rest i j v hi hj = absurd (true≢false (sym hj))
  level_once (suc k) last rest i zero v hi hj = zero-le
  level_once (suc k) last rest zero (suc j) v hi hj =
      absurd (not-both _ (filter_passes (is_next adj T last rest) rest v hi) (filter_passes (λ u. not (is_next adj T last rest u)) rest v (unreached k _ _ j v hj)))
  level_once (suc k) last rest (suc i) (suc j) v hi hj = suc-le-suc (level_once k _ _ i j v hi hj)
