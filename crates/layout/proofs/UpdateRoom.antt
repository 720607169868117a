-- The tables have room for every update of an accepted job: one for each row, and two for each pair of adjacent rows,
-- of which there are no more than entries below the diagonal.
use mathlib.Core.Path.{◌≡◌, refl, sym}
use mathlib.Core.Logic.{◌⊎◌, inl, inr, ◌≢◌}
use mathlib.Core.Bool.{Bool, true, false}
use mathlib.Core.List.{List}
use Prim.Native.Nat.{ℕ, suc, ◌+◌, ◌*◌, ◌≤◌, ◌<◌}
use native.Mathlib.Nat.{le_trans}
use native.Mathlib.Omega.{arith}
use lib.Dec.{eqb, leb, ltb}
use lib.ListN.{length}
use borrow.Author.Tests.{le-leb, ltb-true, ltb-false, eqb-true, eqb-false}
use Rattle.base.specs.Lists.{filter, is_in, sum_below, bit}
use Rattle.base.proofs.Lists.{filter-of}
use Rattle.base.proofs.Sums.{sum-below-same, sum-below-le, sum-below_twice, sum-below-up}
use Rattle.matrix.specs.Matrix.{Matrix, columns_of, adjacent, adjacent_pairs, lower_entries}
use Rattle.matrix.proofs.Matrix.{matrix_facts, neighbour_column}
use Rattle.plan.specs.Sound.{max_workers}
use Rattle.run.specs.Job.{Job, Accepted}
use Rattle.run.specs.Updates.{row_updates, owner, updates, accesses}
use Rattle.run.specs.EveryRun.{whole_run}
use Rattle.tables.specs.Code.Laid.{max_updates, first_of, next_of, begin_of, Counted, Rising}
use Rattle.run.proofs.Work.{cum_own, cum_mono}
use Rattle.run.proofs.Owners.{owned}
use Rattle.run.proofs.Counting.{all-accesses}
use Rattle.tables.proofs.Different.{different}
use Rattle.run.proofs.Accepted.{tree_of, order-of, facts}

-- each pair of adjacent rows has its entry below the diagonal
pairs-entries : (m : Matrix) → adjacent_pairs m ≤ lower_entries m
unfolding adjacent_pairs lower_entries adjacent
pairs-entries m = sum-below-le (λ i. sum_below (λ k. bit (adjacent m i k)) i) (λ i. length (filter (λ k. leb k i) (columns_of m i))) m.n (λ i l. row i)
  where
    row : (i : ℕ) → sum_below (λ k. bit (adjacent m i k)) i ≤ length (filter (λ k. leb k i) (columns_of m i))
    row i =
        le_trans (sum-below-le (λ k. bit (adjacent m i k)) (λ k. bit (is_in (filter (λ v. leb v i) (columns_of m i)) k)) i (λ k l. go k l (adjacent m i k) refl))
        (different i (filter (λ k. leb k i) (columns_of m i)))
      where
        go : (k : ℕ) → k < i → (b : Bool) → adjacent m i k ≡ b → bit b ≤ bit (is_in (filter (λ v. leb v i) (columns_of m i)) k)
        go k l true e = rw (filter-of (λ v. leb v i) (columns_of m i) k (neighbour_column m i k e) (le-leb k i (omega arith))) (omega arith)
        go k l false e = omega arith

-- ---- where a worker's updates stand

module _ (j : Job) where
  abbrev many : ℕ → ℕ
  many w = length (updates j w)

  first_next : (w : ℕ) → first_of j (suc w) ≡ first_of j w + many w
  unfolding sum_below
  first_next w = refl

  -- .. before those of the next worker
  next_low : (w e : ℕ) → e ≤ j.matrix.n → next_of j w e ≤ first_of j (suc w)
  unfolding updates
  next_low w e h = omega (arith, first_next w, cum_mono j w e j.matrix.n h)

  -- those of the row at p end where its worker's next ones begin
  pub span : (p : ℕ) → begin_of j p + length (row_updates j p) ≡ next_of j (owner j p) (suc p)
  span p = omega (arith, cum_own j (owner j p) p refl)

  -- those of an earlier row of the same worker, or of an earlier worker, stand before
  before : (p q : ℕ) → p < j.matrix.n → (owner j p < owner j q) ⊎ ((owner j p ≡ owner j q) × (p < q)) → begin_of j p + length (row_updates j p) ≤ begin_of j q
  before p q l (inl h) = omega (arith, span p, next_low (owner j p) (suc p) l, sum-below-up many (suc (owner j p)) (owner j q) h)
  before p q l (inr h) = rw (← h.0) (omega (arith, span p, cum_mono j (owner j p) (suc p) q h.1))

  -- the updates of two rows stand apart
  pub spans_apart : (p q : ℕ) → p < j.matrix.n → q < j.matrix.n → p ≢ q
      → (begin_of j p + length (row_updates j p) ≤ begin_of j q) ⊎ (begin_of j q + length (row_updates j q) ≤ begin_of j p)
  spans_apart p q lp lq d = go (ltb (owner j p) (owner j q)) refl (eqb (owner j p) (owner j q)) refl (ltb p q) refl
    where
      go : (a : Bool) → ltb (owner j p) (owner j q) ≡ a → (b : Bool) → eqb (owner j p) (owner j q) ≡ b → (c : Bool) → ltb p q ≡ c
          → (begin_of j p + length (row_updates j p) ≤ begin_of j q) ⊎ (begin_of j q + length (row_updates j q) ≤ begin_of j p)
      go true x b y c z = inl (before p q lp (inl (ltb-true (owner j p) (owner j q) x)))
      go false x true y true z = inl (before p q lp (inr (eqb-true (owner j p) (owner j q) y, ltb-true p q z)))
      go false x true y false z = inr (before q p lq (inr (sym (eqb-true (owner j p) (owner j q) y), omega (arith, ltb-false p q z, d))))
      go false x false y c z = inr (before q p lq (inl (omega (arith, ltb-false (owner j p) (owner j q) x, eqb-false (owner j p) (owner j q) y))))

module _ (j : Job) (ok : Accepted j) where
  pub owners : (p : ℕ) → p < j.matrix.n → owner j p < max_workers
  owners p l = omega (arith, owned j (tree_of j ok) p l, (facts j ok).few)

  -- there is room for all
  all_room : first_of j max_workers ≤ max_updates
  unfolding accesses whole_run
  all_room =
      omega (
        arith,
        all-accesses j ok.matrix (order-of j ok) max_workers owners,
        sum-below-same (accesses j) (λ v. 2 * length (updates j v)) max_workers (λ v l. refl),
        sum-below_twice (λ v. length (updates j v)) max_workers,
        pairs-entries j.matrix,
        (matrix_facts j.matrix ok.matrix).lower,
        (matrix_facts j.matrix ok.matrix).few,
      )

  pub first-room : (w : ℕ) → w ≤ max_workers → first_of j w ≤ max_updates
  first-room w l = omega (arith, sum-below-up (many j) w max_workers l, all_room)

  pub room : (w e : ℕ) → w < max_workers → e ≤ j.matrix.n → next_of j w e ≤ max_updates
  room w e l h = omega (arith, next_low j w e h, first-room (suc w) l)

  -- the table of firsts is as the code needs it
  pub rising-of : {first : List ℕ} → Counted j first → Rising first
  rising-of c = record {
    rises = λ w l. omega (arith, c.is w (omega arith), c.is (w + 1) (omega arith), sum-below-up (many j) w (w + 1) (omega arith));
    few = λ w l. omega (arith, c.is w l, first-room w l);
  }
