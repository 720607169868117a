-- What a run asks of its plan: the one interface between the plan's laws and the machine's.
use mathlib.Core.Path.{◌≡◌}
use mathlib.Core.Logic.{◌≢◌}
use mathlib.Core.Bool.{true, false}
use mathlib.Core.List.{List}
use Prim.Native.Nat.{ℕ, ◌/◌, ◌≤◌, ◌<◌}
use lib.ListN.{length, get_or, take}
use Rattle.base.specs.Integers.{sumℤ, fits64}
use Rattle.matrix.specs.Product.{force_at}
use Rattle.plan.specs.Sound.{max_workers}
use Rattle.run.specs.Job.{Job, row_at, workers}
use Rattle.run.specs.Updates.{count, updates, accesses, no_update, next, waits}
use Rattle.base.specs.Lists.{position_of}
use Rattle.run.proofs.Amounts.{landed}

-- the facts of a job j
pub record Facts (j : Job) : Type 0 where
  -- a state has a count and a held number for each worker
  pub few : workers j ≤ max_workers
  -- every update is of a row's sum
  pub targets : (w k : ℕ) → k < length (updates j w) → (get_or (updates j w) k no_update).target < j.matrix.n
  -- two workers that may both move are at different sums
  pub exclusion : (made : List ℕ) (v w : ℕ) → v ≢ w → count made v < accesses j v → count made w < accesses j w
      → waits j made v ≡ false → waits j made w ≡ false → (next j made v).target ≢ (next j made w).target
  -- who does not wait does not wait later on in the same update
  pub lasting : (made new : List ℕ) (w : ℕ) → ((v : ℕ) → count made v ≤ count new v) → count made w / 2 ≡ count new w / 2
      → waits j made w ≡ false → waits j new w ≡ false
  -- after any number of updates of each worker every sum has 64 bits
  pub fitting : (t : ℕ) (k : ℕ → ℕ) → t < j.matrix.n → fits64 (sumℤ (λ w. landed t (take (k w) (updates j w))) (workers j)) ≡ true
  -- all updates together make the product
  pub whole : (t : ℕ) → t < j.matrix.n → sumℤ (λ w. landed t (updates j w)) (workers j) ≡ force_at j.matrix j.displacements (row_at j t)
  -- every row has its position
  pub placed : (i : ℕ) → i < j.matrix.n → (position_of j.plan.order i < j.matrix.n) × (row_at j (position_of j.plan.order i) ≡ i)
