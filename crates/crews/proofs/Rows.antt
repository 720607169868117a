-- Who is inside a row: it has an access left, and, if it did not wait there before, it does not wait after a step.
use mathlib.Core.Path.{◌≡◌, refl, sym, ap, ◌∙◌, subst}
use mathlib.Core.Logic.{◌⊎◌, inl, inr, ◌≢◌}
use mathlib.Core.Bool.{true, false}
use mathlib.Core.List.{List}
use Prim.Native.Nat.{ℕ, suc, ◌*◌, ◌≤◌, ◌<◌}
use native.Mathlib.Omega.{arith}
use lib.ListN.{length}
use lib.Dec.{ltb}
use borrow.Author.Tests.{ltb-true, lt-ltb}
use Rattle.base.proofs.Booleans.{and_left, and_right, same_or}
use Rattle.plan.specs.Sound.{max_workers}
use Rattle.run.specs.Job.{Job, workers}
use Rattle.run.specs.Updates.{owner, up_to, updates, accesses, count, next, waits}
use Rattle.run.specs.Machine.{refusal, onward}
use Rattle.run.proofs.Able.{Able, able}
use Rattle.run.proofs.Onward.{onward-other, onward_at, onward_grows}
use Rattle.run.proofs.Work.{cum, cum_mono}
use Rattle.run.proofs.Next.{next-at, next_row, next-from, next-before, lasts_row}
use Rattle.crews.specs.Crews.{in_row}
use Rattle.crews.specs.TwoCrews.{Begun}

module _ (j : Job) where
  -- it has an access left
  pub in_row-left : (made : List ℕ) (w : ℕ) → in_row j made w ≡ true → count made w < accesses j w
  unfolding in_row
  in_row-left made w h = ltb-true (count made w) (accesses j w) (and_left (ltb (count made w) (accesses j w)) (ltb (2 * length (up_to j w (next j made w).row)) (count made w)) h)

  -- .. and has made one in its row
  pub in_row-begun : (made : List ℕ) (w : ℕ) → in_row j made w ≡ true → 2 * cum j w (next j made w).row < count made w
  unfolding in_row
  in_row-begun made w h =
      ltb-true (2 * cum j w (next j made w).row) (count made w) (and_right (ltb (count made w) (accesses j w)) (ltb (2 * length (up_to j w (next j made w).row)) (count made w)) h)

  -- what it comes to: some accesses of a row of its own are made, and not all
  in-row : (made : List ℕ) (w p : ℕ) → p < j.matrix.n → 2 * cum j w p < count made w → count made w < 2 * cum j w (suc p) → in_row j made w ≡ true
  unfolding in_row accesses updates
  in-row made w p l low high = rw (lt-ltb (count made w) (accesses j w) left, is, lt-ltb (2 * cum j w p) (count made w) low) refl
    where
      left : count made w < accesses j w
      left = omega (arith, cum_mono j w (suc p) j.matrix.n l)

      is : (next j made w).row ≡ p
      is = next_row j made w left ∙ (let q : (next-at j made w left).row ≡ p = omega (arith, next-from j made w left p (omega arith), next-before j made w left (suc p) high) in q)

  pub begun : (made : List ℕ) (w : ℕ) → Begun j made w
  begun made w = record { inside = in-row made w; row = row }
    where
      row : in_row j made w ≡ true → (p : ℕ) × (p < j.matrix.n) × (owner j p ≡ w) × (2 * cum j w p < count made w) × (count made w < 2 * cum j w (suc p))
      row h =
          let left : count made w < accesses j w = in_row-left made w h in
          let a = next-at j made w left in
          (a.row, a.below, a.mine, subst (λ (p : ℕ). 2 * cum j w p < count made w) (next_row j made w left) (in_row-begun made w h), omega (arith, a.high))

  -- both are told by the worker's own count
  pub in_row-same : (made new : List ℕ) (w : ℕ) → count made w ≡ count new w → in_row j made w ≡ in_row j new w
  unfolding in_row next
  in_row-same made new w e = rw e refl

  next-same : (made new : List ℕ) (w : ℕ) → count made w ≡ count new w → next j made w ≡ next j new w
  unfolding next
  next-same made new w e = rw e refl

  -- who is inside a row does not wait
  abbrev pub RowFree : List ℕ → Type 0
  RowFree made = (w : ℕ) → in_row j made w ≡ true → waits j made w ≡ false

  module _ (few : workers j ≤ max_workers) where
    -- a step that is not refused leaves it so
    pub onward-free : (made : List ℕ) → length made ≡ max_workers → RowFree made → (v : ℕ) → refusal j made v ≡ 0 → RowFree (onward made v)
    onward-free made l free v e w h = go (same_or w v)
      where
        a : Able j made v
        a = able j made v e

        new : List ℕ
        new = onward made v

        counted_in : v < length made
        counted_in = omega (arith, a.in_plan)

        -- its own next row is the one that it was in
        same_row : in_row j new v ≡ true → (next j made v).row ≡ (next j new v).row
        same_row h =
            let left : count new v < accesses j v = in_row-left new v h in
            let now = next-at j new v left in
            let at-now : (next j new v).row ≡ now.row = next_row j new v left in
            let was = next-at j made v a.left in
            let one = onward_at made v counted_in in
            let begun : 2 * cum j v now.row < count new v = subst (λ (p : ℕ). 2 * cum j v p < count new v) at-now (in_row-begun new v h) in
            let low : now.row ≤ was.row = next-from j made v a.left now.row (omega arith) in
            let high : was.row < suc now.row = next-before j made v a.left (suc now.row) (omega (arith, now.high)) in
            next_row j made v a.left ∙ (let q : was.row ≡ now.row = omega arith in q) ∙ sym at-now

        go : (w ≡ v) ⊎ (w ≢ v) → waits j new w ≡ false
        go (inl q) = subst (λ (y : ℕ). waits j new y ≡ false) (sym q) (lasts_row j made new (onward_grows made v counted_in) v (same_row (subst (λ (y : ℕ). in_row j new y ≡ true) q h)) a.going)
        go (inr d) =
            let same = onward-other made v w d in
            lasts_row j made new (onward_grows made v counted_in) w (ap (λ u. u.row) (next-same made new w (sym same))) (free w (in_row-same made new w (sym same) ∙ h))
