-- Every row of the region is at some level, and the levels hold the region's rows as often as it does: 2 × n levels are
-- enough.
use mathlib.Core.Path.{◌≡◌, refl, sym, ap, ◌∙◌}
use mathlib.Core.Logic.{◌⊎◌, inl, inr}
use mathlib.Core.Bool.{Bool, true, false, not, true≢false}
use mathlib.Core.List.{List, [], ◌∷◌}
use Prim.Native.Nat.{ℕ, zero, suc, ◌+◌, ◌*◌, ◌≤◌}
use native.Mathlib.Omega.{arith}
use lib.ListN.{length, get_or}
use borrow.Author.Tests.{eq-eqb}
use Rattle.base.specs.Lists.{filter, is_in, concat}
use Rattle.base.proofs.Booleans.{not-both}
use Rattle.base.proofs.Lists.{filter_in, filter_passes, filter-of, any_of, length-split, in_pos}
use Rattle.base.proofs.Counts.{count, count-append, count-split}
use Rattle.levels.specs.Levels.{is_next, levels_from}
use Rattle.levels.proofs.Root.{root_in, root-some}

-- 0 for an empty level, else 1
abbrev pub some : List ℕ → ℕ
some [] = 0
some (x ∷ xs) = 1

some-le : (xs : List ℕ) → (some xs ≤ length xs) × (some xs ≤ 1)
some-le [] = omega arith
some-le (x ∷ xs) = omega arith

module _ (adj : ℕ → List ℕ) (T : List ℕ) where
  -- a path leads from v to T or to the last level, through rows not yet reached
  pub data Path (last rest : List ℕ) : ℕ → Type 0 where
    own : {v : ℕ} → is_in T v ≡ true → Path last rest v
    ended : {v : ℕ} (u : ℕ) → is_in (adj v) u ≡ true → is_in last u ≡ true → Path last rest v
    through : {v : ℕ} (u : ℕ) → is_in (adj v) u ≡ true → is_in rest u ≡ true → Path last rest u → Path last rest v

  -- so it does from every row not yet reached
  abbrev pub Fed : (last rest : List ℕ) → Type 0
  Fed last rest = (v : ℕ) → is_in rest v ≡ true → Path last rest v

  -- the next level, and who is left then
  abbrev new : (last rest : List ℕ) → List ℕ
  new last rest = filter (is_next adj T last rest) rest

  abbrev left : (last rest : List ℕ) → List ℕ
  left last rest = filter (λ v. not (is_next adj T last rest v)) rest

  new_or-left : (last rest : List ℕ) (v : ℕ) → is_in rest v ≡ true → (is_in (new last rest) v ≡ true) ⊎ (is_in (left last rest) v ≡ true)
  new_or-left last rest v h = go (is_next adj T last rest v) refl
    where
      go : (b : Bool) → is_next adj T last rest v ≡ b → (is_in (new last rest) v ≡ true) ⊎ (is_in (left last rest) v ≡ true)
      go true e = inl (filter-of (is_next adj T last rest) rest v h e)
      go false e = inr (filter-of (λ u. not (is_next adj T last rest u)) rest v h (ap not e))

  -- who is adjacent to the last level is on the next
  next_of : (last rest : List ℕ) (v t : ℕ) → is_in last t ≡ true → is_in (adj v) t ≡ true → is_next adj T last rest v ≡ true
  unfolding is_next
  next_of [] rest v t h c = absurd (true≢false (sym h))
  next_of (x ∷ xs) rest v t h c = any_of (is_in (x ∷ xs)) (adj v) t c h

  onward : (last rest : List ℕ) (v : ℕ) → is_in (left last rest) v ≡ true → Path last rest v → Path (new last rest) (left last rest) v
  onward last rest v h (own a) = own a
  onward last rest v h (ended u c l) = absurd (not-both _ (next_of last rest v u l c) (filter_passes (λ u. not (is_next adj T last rest u)) rest v h))
  onward last rest v h (through u c r p) = go (new_or-left last rest u r) (λ k. onward last rest u k p)
    where
      go : (is_in (new last rest) u ≡ true) ⊎ (is_in (left last rest) u ≡ true) → (is_in (left last rest) u ≡ true → Path (new last rest) (left last rest) u) → Path (new last rest) (left last rest) v
      go (inl a) ih = ended u c a
      go (inr a) ih = through u c a (ih a)

  fed : (last rest : List ℕ) → Fed last rest → Fed (new last rest) (left last rest)
  fed last rest f v h = onward last rest v h (f v (filter_in (λ u. not (is_next adj T last rest u)) rest v h))

  -- after an empty level a root is found
  root_at : (rest : List ℕ) (v : ℕ) → is_in rest v ≡ true → Path [] rest v → 1 ≤ length (new [] rest)
  unfolding is_next
  root_at rest v h (own a) =
      let (r, q) = root-some adj T rest v a h in
      in_pos (new [] rest) r (filter-of (is_next adj T [] rest) rest r (root_in adj T rest r q) q)
  root_at rest v h (ended u c l) = absurd (true≢false (sym l))
  root_at rest v h (through u c r p) = root_at rest u r p

  root_new : (rest : List ℕ) (v : ℕ) → Fed [] rest → is_in rest v ≡ true → 1 ≤ length (new [] rest)
  root_new rest v f h = root_at rest v h (f v h)

  -- while some are left, each level brings the end nearer
  less : (k : ℕ) (last rest : List ℕ) (v : ℕ) → Fed last rest → is_in rest v ≡ true → 2 * length rest + some last ≤ suc k
      → 2 * length (left last rest) + some (new last rest) ≤ k
  less k [] rest v f h b = omega (arith, length-split (is_next adj T [] rest) rest, some-le (new [] rest), root_new rest v f h)
  less k (x ∷ xs) rest v f h b = omega (arith, length-split (is_next adj T (x ∷ xs) rest) rest, some-le (new (x ∷ xs) rest))

  -- with enough levels, whoever is not yet reached will be
  pub reached : (k : ℕ) (last rest : List ℕ) → Fed last rest → 2 * length rest + some last ≤ k → (v : ℕ) → is_in rest v ≡ true
      → (j : ℕ) × (is_in (get_or (levels_from adj k T last rest) j []) v ≡ true)
  unfolding levels_from
  reached zero last rest f b v h = let q : 1 ≤ length rest = in_pos rest v h in absurd (omega arith)
  reached (suc k) last rest f b v h =
      go (new_or-left last rest v h)
      (λ h'. reached k (new last rest) (left last rest) (fed last rest f) (less k last rest v f h b) v h')
    where
      go : (is_in (new last rest) v ≡ true) ⊎ (is_in (left last rest) v ≡ true)
          → (is_in (left last rest) v ≡ true → (j : ℕ) × (is_in (get_or (levels_from adj k T (new last rest) (left last rest)) j []) v ≡ true))
          → (j : ℕ) × (is_in (get_or (levels_from adj (suc k) T last rest) j []) v ≡ true)
      go (inl a) ih = (0, a)
      go (inr a) ih = let (j, m) = ih a in (suc j, m)

  -- .. and the levels hold each as often as it is there
  pub levels-count : (k : ℕ) (last rest : List ℕ) → Fed last rest → 2 * length rest + some last ≤ k
      → (v : ℕ) → count v (concat (levels_from adj k T last rest)) ≡ count v rest
  unfolding levels_from
  levels-count zero last [] f b v = refl
  levels-count zero last (x ∷ xs) f b v = absurd (omega arith)
  levels-count (suc k) last [] f b v = levels-count k [] [] (λ u h. absurd (true≢false (sym h))) (omega arith) v
  levels-count (suc k) last (x ∷ xs) f b v =
      let me : is_in (x ∷ xs) x ≡ true = rw (eq-eqb x x refl) refl in
      count-append v (new last (x ∷ xs)) _
      ∙ ap (λ (m : ℕ). count v (new last (x ∷ xs)) + m) (levels-count k (new last (x ∷ xs)) (left last (x ∷ xs)) (fed last (x ∷ xs) f) (less k last (x ∷ xs) x f me b) v)
      ∙ count-split v (is_next adj T last (x ∷ xs)) (x ∷ xs)
