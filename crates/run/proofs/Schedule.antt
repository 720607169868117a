-- What a schedule does, step by step: of any job and any state.
use mathlib.Core.Path.{◌≡◌, refl, sym, ap}
use mathlib.Core.Logic.{◌⊎◌, inl, inr, ⊎_elim}
use mathlib.Core.Bool.{Bool, true, false}
use mathlib.Core.List.{List, ◌∷◌}
use Prim.Native.Nat.{ℕ, zero, suc, ◌%◌}
use native.Mathlib.Omega.{arith}
use lib.Dec.{eqb}
use Rattle.base.specs.Integers.{fits64}
use Rattle.run.specs.Job.{Job}
use Rattle.run.specs.Updates.{Update, count, next}
use Rattle.run.specs.Machine.{refusal, moved, halted, onward, load, total, store, access, move, step_if, step, one_more, steps}
use Rattle.run.specs.State.{State}
use Rattle.run.specs.Model.{added, ending, one_noted, note}

-- a step that the counts refuse
pub step_end : (j : Job) (s : State) (w k : ℕ) → refusal j s.made w ≡ suc k → step j s w ≡ halted (suc k)
unfolding step step_if
step_end j s w k e = rw e refl

-- what the first step makes of a schedule, of the machine
module _ (j : Job) (s : State) (w : ℕ) (ws : List ℕ) where
  -- it is taken
  pub steps_on : (t : State) → step j s w ≡ moved t → steps j s (w ∷ ws) ≡ one_more (steps j t ws)
  unfolding steps
  steps_on t e = rw (e, steps)

  -- it ends the call
  pub steps_end : (k : ℕ) → step j s w ≡ halted k → steps j s (w ∷ ws) ≡ record { state = s; taken = 0; number = k }
  unfolding steps
  steps_end k e = rw (e, steps)

-- .. and of the model
module _ (j : Job) (made : List ℕ) (w : ℕ) (ws : List ℕ) where
  -- it is taken
  pub note_on : ending j made w ≡ 0 → note j made (w ∷ ws) ≡ one_noted (note j (added made w) ws)
  unfolding note
  note_on e = rw (e, note)

  -- it ends the call
  pub note_end : (k : ℕ) → ending j made w ≡ suc k → note j made (w ∷ ws) ≡ record { counts = made; taken = 0; number = suc k }
  unfolding note
  note_end k e = rw (e, note)

-- a step that is taken is a load or a store, and the counts do not refuse it
pub record StepMoved (j : Job) (s : State) (w : ℕ) (t : State) : Type 0 where
  pub free : refusal j s.made w ≡ 0
  pub one : (load s w (next j s.made w) ≡ t) ⊎ (store s w (next j s.made w) ≡ t)

pub step-moved : (j : Job) (s : State) (w : ℕ) (t : State) → step j s w ≡ moved t → StepMoved j s w t
unfolding step step_if move access
step-moved j s w t h = go (refusal j s.made w) refl h
  where
    u : Update
    u = next j s.made w

    by : (even fitting : Bool) → access even fitting s w u ≡ moved t → (load s w u ≡ t) ⊎ (store s w u ≡ t)
    by true f x = inl cc
    by false true x = inr cc
    by false false x = absurd (let z : ◌≡◌ {A = ℕ} 0 1 = cc in omega arith)

    go : (k : ℕ) → refusal j s.made w ≡ k → step_if k s w u ≡ moved t → StepMoved j s w t
    go zero e x = record { free = e; one = by (eqb (count s.made w % 2) 0) (fits64 (total s w u)) x }
    go (suc k) e x = absurd (let z : ◌≡◌ {A = ℕ} 0 1 = cc in omega arith)

-- .. it adds 1 to its worker's count, and to no other
pub step-made : (j : Job) (s : State) (w : ℕ) (t : State) → step j s w ≡ moved t → t.made ≡ onward s.made w
unfolding load store
step-made j s w t h = ⊎_elim (λ e. ap (λ (z : State). z.made) (sym e)) (λ e. ap (λ (z : State). z.made) (sym e)) (step-moved j s w t h).one
