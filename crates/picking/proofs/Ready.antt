-- The ready set by tables, as bits.
use mathlib.Core.Path.{◌≡◌, refl, subst}
use mathlib.Core.List.{List}
use Prim.Native.Nat.{ℕ, zero, suc, ◌^◌, ◌<◌}
use lib.Count.{ones}
use lib.Dec.{eqb}
use Rattle.run.specs.Machine.{bits}
use Rattle.run.specs.Answers.{is_ready}
use Rattle.machine.proofs.ReadyBits.{passing, bits_below, bits-count}
use Rattle.prepared.specs.Tables.{Tables, refusal_by, ready_below_by, ready_by}

module _ (T : Tables) (made : List ℕ) where
  -- the ready workers are those whose step is not refused
  pub ready_passing : (k : ℕ) → passing (λ w. eqb (refusal_by T made w) 0) k ≡ ready_below_by T made k
  unfolding passing ready_below_by
  ready_passing zero = refl
  ready_passing (suc w) = rw (ready_passing w)

  pub low_bits : (k : ℕ) → bits (ready_below_by T made k) < 2 ^ k
  low_bits k = subst (λ (ws : List ℕ). bits ws < 2 ^ k) (ready_passing k) (bits_below (λ w. eqb (refusal_by T made w) 0) k)

  -- the answer of the bits, and the count of those set
  pub ready-bits : (b : ℕ) → b ≡ bits (ready_below_by T made T.crew) → is_ready b (ones b) ≡ ready_by T made
  ready-bits b e = rw (e, ← ready_passing T.crew, bits-count (λ w. eqb (refusal_by T made w) 0) T.crew)
