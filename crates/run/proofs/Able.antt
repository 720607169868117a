-- Who may move, by the counts alone.
use mathlib.Core.Path.{◌≡◌, refl}
use mathlib.Core.Bool.{Bool, true, false}
use mathlib.Core.List.{List}
use Prim.Native.Nat.{ℕ, ◌<◌}
use native.Mathlib.Omega.{arith}
use lib.Dec.{ltb, leb}
use borrow.Author.Tests.{ltb-true, ltb-false, lt-ltb, le-ltb, leb-true, leb-false, le-leb, lt-leb}
use Rattle.run.specs.Job.{Job, workers}
use Rattle.run.specs.Updates.{count, accesses, waits}
use Rattle.run.specs.Machine.{reason, refusal}
use Rattle.run.specs.InOrder.{StepInOrder, InOrder}

module _ (j : Job) (made : List ℕ) (w : ℕ) where
  -- the refusals by the counts, in their order
  step_in_order : StepInOrder j made w
  unfolding refusal reason
  step_in_order = record {
    stranger = λ l. rw (le-ltb w (workers j) l) refl;
    done = λ l m. rw (lt-ltb w (workers j) l, le-leb (accesses j w) (count made w) m) refl;
    waiting = λ l m h. rw (lt-ltb w (workers j) l, lt-leb (accesses j w) (count made w) m, h) refl;
    taken = λ l m h. rw (lt-ltb w (workers j) l, lt-leb (accesses j w) (count made w) m, h) refl;
  }

  -- w is a worker of the plan, has an access left, and does not wait
  pub record Able : Type 0 where
    pub in_plan : w < workers j
    pub left : count made w < accesses j w
    pub going : waits j made w ≡ false

  -- who is able is not refused
  pub able-refusal : Able → refusal j made w ≡ 0
  able-refusal a = step_in_order.taken a.in_plan a.left a.going

  -- .. and the other way
  pub able : refusal j made w ≡ 0 → Able
  able e = go (ltb w (workers j)) refl (leb (accesses j w) (count made w)) refl (waits j made w) refl
    where
      go : (a : Bool) → ltb w (workers j) ≡ a → (b : Bool) → leb (accesses j w) (count made w) ≡ b → (c : Bool) → waits j made w ≡ c → Able
      go false x b y c z = absurd (omega (arith, e, step_in_order.stranger (ltb-false w (workers j) x)))
      go true x true y c z = absurd (omega (arith, e, step_in_order.done (ltb-true w (workers j) x) (leb-true (accesses j w) (count made w) y)))
      go true x false y true z = absurd (omega (arith, e, step_in_order.waiting (ltb-true w (workers j) x) (leb-false (accesses j w) (count made w) y) z))
      go true x false y false z = record { in_plan = ltb-true w (workers j) x; left = leb-false (accesses j w) (count made w) y; going = z }

-- of all counts and picks
pub in_order_lem : InOrder
in_order_lem = record { every = step_in_order }
