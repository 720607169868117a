-- A finished run has the product.
use mathlib.Core.Path.{◌≡◌, refl, sym, ap, ◌∙◌, subst}
use mathlib.Core.Logic.{◌⊎◌, inl, inr, ◌≢◌}
use mathlib.Core.Bool.{true}
use mathlib.Core.List.{List}
use Prim.Native.Nat.{ℕ, zero, suc, ◌/◌, ◌≤◌, ◌<◌}
use native.Mathlib.Omega.{arith}
use lib.ListN.{length, get_or}
use lib.Seq.{take_all}
use lib.Dec.{leb}
use lib.IntN.{pos}
use borrow.Author.Tests.{leb-true, le-leb}
use Rattle.base.proofs.Booleans.{and_left, and_right, same_or}
use Rattle.base.proofs.Lists.{map-range-same}
use Rattle.base.proofs.Sums.{sum_same}
use Rattle.matrix.specs.Product.{force_at, product}
use Rattle.run.specs.Job.{Job, row_at, workers}
use Rattle.run.specs.Updates.{count, updates, accesses}
use Rattle.run.specs.Machine.{all_made, over, original}
use Rattle.base.specs.Lists.{position_of}
use Rattle.run.specs.State.{State}
use Rattle.run.proofs.Amounts.{landed}
use Rattle.run.proofs.Facts.{Facts}
use Rattle.run.proofs.Invariant.{so_far, Inv}

-- ---- every worker has made all its accesses

module _ (j : Job) (made : List ℕ) where
  all_made_lem : (k : ℕ) → all_made j made k ≡ true → (w : ℕ) → w < k → accesses j w ≤ count made w
  unfolding all_made
  all_made_lem zero e w l = absurd (omega arith)
  all_made_lem (suc k) e w l = go (same_or w k) (λ m. all_made_lem k (and_right (leb (accesses j k) (count made k)) (all_made j made k) e) w m)
    where
      go : (w ≡ k) ⊎ (w ≢ k) → (w < k → accesses j w ≤ count made w) → accesses j w ≤ count made w
      go (inl q) ih = subst (λ (y : ℕ). accesses j y ≤ count made y) (sym q) (leb-true (accesses j k) (count made k) (and_left (leb (accesses j k) (count made k)) (all_made j made k) e))
      go (inr q) ih = ih (omega arith)

  made_all : (k : ℕ) → ((w : ℕ) → w < k → accesses j w ≤ count made w) → all_made j made k ≡ true
  unfolding all_made
  made_all zero h = refl
  made_all (suc k) h = rw (le-leb (accesses j k) (count made k) (h k (omega arith)), made_all k (λ w l. h w (omega arith))) refl

  -- what it is for a run to be finished
  pub over-made : over j made ≡ true → (w : ℕ) → w < workers j → accesses j w ≤ count made w
  unfolding over
  over-made e = all_made_lem (workers j) e

  -- .. and the other way
  pub made-over : ((w : ℕ) → w < workers j → accesses j w ≤ count made w) → over j made ≡ true
  unfolding over
  made-over h = made_all (workers j) h

-- ---- the sums and the forces

module _ (j : Job) (F : Facts j) where
  -- the sums of a finished run, in plan order
  pub sums-product : (s : State) → Inv j s → over j s.made ≡ true → (t : ℕ) → t < j.matrix.n → get_or s.sums t (pos 0) ≡ force_at j.matrix j.displacements (row_at j t)
  unfolding accesses
  sums-product s I o t l =
      I.right t l ∙ sum_same (so_far j s.made t) (λ w. landed t (updates j w)) (workers j)
      (λ w k. ap (landed t) (take_all (count s.made w / 2) (updates j w) (half w k))) ∙ F.whole t l
    where
      half : (w : ℕ) → w < workers j → length (updates j w) ≤ count s.made w / 2
      half w k = omega (arith, over-made j s.made o w k)

  -- the force list of a finished run
  pub forces-product : (s : State) → Inv j s → over j s.made ≡ true → original j s.sums ≡ product j.matrix j.displacements
  unfolding original product
  forces-product s I o =
      map-range-same (λ i. get_or s.sums (position_of j.plan.order i) (pos 0)) (force_at j.matrix j.displacements) 0 j.matrix.n
      (λ i a b. let p = F.placed i (omega arith) in sums-product s I o (position_of j.plan.order i) p.0 ∙ ap (force_at j.matrix j.displacements) p.1)
