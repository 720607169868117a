-- The numbers of a run's state fit its bytes: held numbers and sums have 64 bits, counts have 32.
use mathlib.Core.Path.{◌≡◌, refl, subst}
use mathlib.Core.Bool.{Bool, true, false, cond}
use mathlib.Core.List.{List, [], ◌∷◌}
use Prim.Native.Nat.{ℕ, zero, suc, ◌%◌, ◌<◌, ◌^◌}
use native.Mathlib.Omega.{arith}
use lib.Dec.{eqb}
use lib.IntN.{ℤ, pos}
use lib.ListN.{length, get_or, set, replicate}
use Rattle.base.specs.Integers.{fits64}
use Rattle.base.specs.Replies.{in_turn}
use Rattle.base.proofs.Each.{Each}
use Rattle.plan.specs.Sound.{max_workers}
use Rattle.run.specs.Job.{Job, Accepted}
use Rattle.run.specs.Updates.{Update, count, next}
use Rattle.run.specs.Machine.{refusal, Outcome, moved, halted, load, total, store, access, move, step_if, step, one_more, steps, is_state}
use Rattle.run.specs.State.{State, fresh}
use Rattle.run.specs.Rounds.{skips}
use Rattle.run.specs.Calls.{state_check, after_of, after}
use Rattle.run.specs.Answers.{Call, picks, ready_set, force_list, preview, rounds}
use Rattle.run.proofs.Invariant.{Inv}
use Rattle.run.proofs.Passes.{pass-keeps}
use Rattle.run.proofs.Schedule.{steps_on, steps_end}
use Rattle.run.proofs.Accepted.{accesses-small}

-- ---- a property of each element

module _ {A : Type 0} (P : A → Type 0) where
  pub each-get : (xs : List A) (d : A) → Each P xs → P d → (i : ℕ) → P (get_or xs i d)
  each-get [] d h p i = p
  each-get (x ∷ xs) d h p zero = h.0
  each-get (x ∷ xs) d h p (suc i) = each-get xs d h.1 p i

  pub get-each : (xs : List A) (d : A) → ((i : ℕ) → i < length xs → P (get_or xs i d)) → Each P xs
  get-each [] d h = tt
  get-each (x ∷ xs) d h = (h 0 (omega arith), get-each xs d (λ i l. h (suc i) (omega arith)))

  each_set : (xs : List A) (i : ℕ) (v : A) → Each P xs → P v → Each P (set xs i v)
  each_set [] i v h p = tt
  each_set (x ∷ xs) zero v h p = (p, h.1)
  each_set (x ∷ xs) (suc i) v h p = (h.0, each_set xs i v h.1 p)

  each-replicate : (n : ℕ) (v : A) → P v → Each P (replicate n v)
  each-replicate zero v p = tt
  each-replicate (suc n) v p = (p, each-replicate n v p)

-- ---- held numbers and sums

-- a signed number of 64 bits
abbrev pub Fit : ℤ → Type 0
Fit z = fits64 z ≡ true

pub record Fits (s : State) : Type 0 where
  pub held : Each Fit s.held
  pub sums : Each Fit s.sums

-- a fresh state's
pub fits_fresh : (n : ℕ) → Fits (fresh n)
unfolding fresh fits64
fits_fresh n = record { held = each-replicate Fit max_workers (pos 0) refl; sums = each-replicate Fit n (pos 0) refl }

-- the state that a step moves to
abbrev FitsIn : Outcome State → Type 0
FitsIn (moved t) = Fits t
FitsIn (halted k) = Unit {0}

-- a load copies a sum, and a store that passes 64 bits is refused
access-fits : (even fitting : Bool) (s : State) (w : ℕ) (u : Update) → fits64 (total s w u) ≡ fitting → Fits s → FitsIn (access even fitting s w u)
unfolding access load store fits64
access-fits true b s w u e f = record { held = each_set Fit s.held w _ f.held (each-get Fit s.sums (pos 0) f.sums refl u.target); sums = f.sums }
access-fits false true s w u e f = record { held = f.held; sums = each_set Fit s.sums u.target (total s w u) f.sums e }
access-fits false false s w u e f = tt

module _ (j : Job) where
  step_fits : (s : State) (w : ℕ) → Fits s → FitsIn (step j s w)
  unfolding step step_if move
  step_fits s w f = go (refusal j s.made w)
    where
      go : (k : ℕ) → FitsIn (step_if k s w (next j s.made w))
      go zero = access-fits (eqb (count s.made w % 2) 0) (fits64 (total s w (next j s.made w))) s w (next j s.made w) refl f
      go (suc k) = tt

  steps_fit : (s : State) (ws : List ℕ) → Fits s → Fits (steps j s ws).state
  unfolding steps one_more
  steps_fit s [] f = f
  steps_fit s (w ∷ ws) f = go (step j s w) refl (step_fits s w f) (λ t. steps_fit t ws)
    where
      go : (o : Outcome State) → step j s w ≡ o → FitsIn o → ((t : State) → Fits t → Fits (steps j t ws).state) → Fits (steps j s (w ∷ ws)).state
      go (moved t) e g ih = rw (steps_on j s w ws t e) (ih t g)
      go (halted k) e g ih = rw (steps_end j s w ws k e) f

  -- the state that a call leaves
  pub after-fits : (s : State) (c : Call) → Fits s → Fits (after j s c)
  unfolding after state_check in_turn after_of
  after-fits s c f = go (is_state j s)
    where
      made : (c : Call) → Fits (after_of j s c)
      made (picks ws) = steps_fit s ws f
      made ready_set = f
      made (force_list room) = f
      made (preview ws) = f
      made (rounds ws) = pass-keeps skips (step j) Fits (λ s w t e g. subst FitsIn e (step_fits s w g)) s ws f

      go : (b : Bool) → Fits (cond b (after_of j s c) s)
      go true = made c
      go false = f

-- ---- counts

pub counts_fit : (j : Job) → Accepted j → (s : State) → Inv j s → Each (λ k. k < 2 ^ 32) s.made
counts_fit j ok s I = get-each (λ k. k < 2 ^ 32) s.made 0 (λ i l. omega (arith, I.bounded i, accesses-small j ok i (omega (arith, I.made-length))))
