-- What holds of every state of a run: each sum has what was stored in it, and who is inside an update holds its sum as
-- it is now.
use mathlib.Core.Path.{◌≡◌, refl, sym, ◌∙◌}
use mathlib.Core.Bool.{Bool, true, false}
use mathlib.Core.List.{List}
use Prim.Native.Nat.{ℕ, ◌/◌, ◌%◌, ◌≤◌, ◌<◌}
use native.Mathlib.Omega.{arith}
use lib.ListN.{length, get_or, take, replicate, length-replicate, get_or-replicate, get_or-eq_default}
use lib.Dec.{leb}
use lib.IntN.{ℤ, pos}
use borrow.Author.Tests.{leb-true, leb-false}
use Rattle.base.specs.Integers.{sumℤ}
use Rattle.base.proofs.Sums.{sum-zero}
use Rattle.plan.specs.Sound.{max_workers}
use Rattle.run.specs.Job.{Job, workers}
use Rattle.run.specs.Updates.{count, updates, accesses, next, waits}
use Rattle.run.specs.State.{State, fresh}
use Rattle.run.proofs.Amounts.{landed_by, landed}

-- what worker w has stored in the sum at position t
abbrev pub so_far : Job → List ℕ → ℕ → ℕ → ℤ
so_far j made t w = landed t (take (count made w / 2) (updates j w))

-- the invariant of a state s
pub record Inv (j : Job) (s : State) : Type 0 where
  pub made-length : length s.made ≡ max_workers
  pub held-length : length s.held ≡ max_workers
  pub sums-length : length s.sums ≡ j.matrix.n
  -- no count passes its worker's accesses
  pub bounded : (w : ℕ) → count s.made w ≤ accesses j w
  -- who is inside an update (at an odd count) does not wait
  pub free : (w : ℕ) → count s.made w % 2 ≡ 1 → waits j s.made w ≡ false
  -- .. and holds its sum as it is now
  pub holding : (w : ℕ) → w < workers j → count s.made w % 2 ≡ 1 → get_or s.held w (pos 0) ≡ get_or s.sums (next j s.made w).target (pos 0)
  -- each sum is the sum of the amounts stored in it
  pub right : (t : ℕ) → t < j.matrix.n → get_or s.sums t (pos 0) ≡ sumℤ (so_far j s.made t) (workers j)

-- at first every count is 0, also of numbers that are no worker's
pub zero-count : (w : ℕ) → count (replicate max_workers 0) w ≡ 0
zero-count w = go (leb max_workers w) refl
  where
    go : (b : Bool) → leb max_workers w ≡ b → count (replicate max_workers 0) w ≡ 0
    go true e = get_or-eq_default (replicate max_workers 0) 0 (leb-true max_workers w e)
    go false e = get_or-replicate max_workers w 0 0 (leb-false max_workers w e)

-- a fresh state has the invariant
pub inv_fresh : (j : Job) → Inv j (fresh j.matrix.n)
unfolding fresh landed_by
inv_fresh j = record {
  made-length = refl;
  held-length = refl;
  sums-length = length-replicate j.matrix.n (pos 0);
  bounded = λ w. omega (arith, zero-count w);
  free = λ w o. absurd (omega (arith, zero-count w));
  holding = λ w l o. absurd (omega (arith, zero-count w));
  right = λ t l. get_or-replicate j.matrix.n t (pos 0) (pos 0) l
      ∙ sym (sum-zero (so_far j (replicate max_workers 0) t) (workers j) (λ w. rw (zero-count w) refl));
}
