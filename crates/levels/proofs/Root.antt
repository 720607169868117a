-- The root of the next component: it was not yet reached, and there is one as long as T has a row there.
use mathlib.Core.Path.{◌≡◌, ap, ◌∙◌}
use mathlib.Core.Bool.{Bool, true}
use mathlib.Core.List.{List}
use Prim.Native.Nat.{ℕ, zero-le, ◌<◌}
use native.Mathlib.Omega.{arith}
use lib.ListN.{take}
use Rattle.base.specs.Lists.{filter, is_in, range, best_of}
use Rattle.base.specs.Code.Scores.{by_score}
use Rattle.base.proofs.Lists.{filter_in, filter_passes, filter-of, filter_swap}
use Rattle.base.proofs.Best.{best_in, best-some, best-first, by_score_filter}
use Rattle.levels.specs.Levels.{degree, root}

module _ (adj : ℕ → List ℕ) (T rest : List ℕ) where
  -- it was not yet reached
  pub root_in : (v : ℕ) → is_in (root adj T rest) v ≡ true → is_in rest v ≡ true
  unfolding root
  root_in v h = filter_in (is_in T) rest v (best_in _ (filter (is_in T) rest) v h)

  -- while a row of T is not yet reached, there is a root
  pub root-some : (t : ℕ) → is_in T t ≡ true → is_in rest t ≡ true → (r : ℕ) × (is_in (root adj T rest) r ≡ true)
  unfolding root
  root-some t own h = best-some _ (filter (is_in T) rest) t (filter-of (is_in T) rest t h own)

-- it is the first row of T, by degree, then by number, that is not yet reached
pub root-first : (adj : ℕ → List ℕ) (n : ℕ) (T : List ℕ) (m : ℕ) → ((v : ℕ) → is_in T v ≡ true → degree adj v < m) → (p : ℕ → Bool)
    → root adj T (filter p (range 0 n)) ≡ take 1 (filter p (by_score (degree adj) 0 m (filter (is_in T) (range 0 n))))
unfolding root
root-first adj n T m few p =
    let own = filter (is_in T) (range 0 n) in
    ap (best_of (degree adj)) (filter_swap p (is_in T) (range 0 n))
    ∙ best-first (degree adj) m 0 (filter p own) (λ v h. (zero-le, omega (arith, few v (filter_passes (is_in T) (range 0 n) v (filter_in p own v h)))))
    ∙ ap (take 1) (by_score_filter (degree adj) p m 0 own)

-- it depends on who is in T alone
pub root-same : (adj : ℕ → List ℕ) (S T : List ℕ) → is_in S ≡ is_in T → (rest : List ℕ) → root adj S rest ≡ root adj T rest
unfolding root
root-same adj S T same rest = ap (λ (p : ℕ → Bool). best_of (degree adj) (filter p rest)) same
