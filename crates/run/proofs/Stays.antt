-- A state that passes its check passes it after every schedule: of any job.
use mathlib.Core.Path.{◌≡◌, refl, sym, ap, ◌∙◌, subst}
use mathlib.Core.Logic.{◌⊎◌, inl, inr, ◌≢◌, ⊎_elim}
use mathlib.Core.Bool.{true}
use mathlib.Core.List.{List, [], ◌∷◌}
use Prim.Native.Nat.{ℕ, zero, suc, ◌≤◌, ◌<◌}
use native.Mathlib.Omega.{arith}
use lib.ListN.{length, get_or, set, length-set}
use lib.Seq.{get_or-set_other}
use lib.Dec.{eqb, leb}
use borrow.Author.Tests.{eqb-true, eq-eqb, leb-true, le-leb}
use Rattle.base.proofs.Booleans.{and_left, and_right, same_or}
use Rattle.plan.specs.Sound.{max_workers}
use Rattle.run.specs.Job.{Job}
use Rattle.run.specs.Updates.{count, accesses, next}
use Rattle.run.specs.Machine.{Outcome, moved, halted, onward, load, store, step, one_more, steps, counts_fine, is_state}
use Rattle.run.specs.State.{State}
use Rattle.run.proofs.Able.{able}
use Rattle.run.proofs.Schedule.{steps_on, steps_end, step-moved, step-made}

-- a count is at most what it is set to, also where the list is too short for it
pub most : (made : List ℕ) (w k : ℕ) → get_or (set made w k) w 0 ≤ k
most [] w k = omega arith
most (x ∷ xs) zero k = omega arith
most (x ∷ xs) (suc w) k = most xs w k

module _ (j : Job) where
  -- counts within the accesses, and one more of a worker that had one left
  fine_on : (made : List ℕ) (w : ℕ) → count made w < accesses j w → (k : ℕ) → counts_fine j made k ≡ true → counts_fine j (onward made w) k ≡ true
  unfolding counts_fine onward
  fine_on made w l zero e = refl
  fine_on made w l (suc v) e = rw (le-leb (count (onward made w) v) (accesses j v) (go (same_or v w))) (fine_on made w l v (and_right (leb (count made v) (accesses j v)) (counts_fine j made v) e))
    where
      go : (v ≡ w) ⊎ (v ≢ w) → count (onward made w) v ≤ accesses j v
      go (inl q) = subst (λ (y : ℕ). count (onward made w) y ≤ accesses j y) (sym q) (omega (arith, most made w (suc (count made w))))
      go (inr d) = omega (arith, get_or-set_other made w v (suc (count made w)) 0 d, leb-true (count made v) (accesses j v) (and_left (leb (count made v) (accesses j v)) (counts_fine j made v) e))

  -- a step keeps the number of sums
  step-sums : (s : State) (w : ℕ) (t : State) → step j s w ≡ moved t → length t.sums ≡ length s.sums
  unfolding load store
  step-sums s w t h = ⊎_elim (λ e. ap (λ (z : State). length z.sums) (sym e)) (λ e. ap (λ (z : State). length z.sums) (sym e) ∙ length-set s.sums _ _) (step-moved j s w t h).one

  pub step_stays : (s : State) (w : ℕ) (t : State) → step j s w ≡ moved t → is_state j s ≡ true → is_state j t ≡ true
  unfolding is_state
  step_stays s w t h e =
      let n = eqb-true (length s.sums) j.matrix.n (and_left (eqb (length s.sums) j.matrix.n) (counts_fine j s.made max_workers) e) in
      let fine = and_right (eqb (length s.sums) j.matrix.n) (counts_fine j s.made max_workers) e in
      rw (eq-eqb (length t.sums) j.matrix.n (step-sums s w t h ∙ n), step-made j s w t h)
      (fine_on s.made w (able j s.made w (step-moved j s w t h).free).left max_workers fine)

  pub steps-stay : (s : State) (ws : List ℕ) → is_state j s ≡ true → is_state j (steps j s ws).state ≡ true
  unfolding steps one_more
  steps-stay s [] e = e
  steps-stay s (w ∷ ws) e = go (step j s w) refl (λ t. steps-stay t ws)
    where
      go : (o : Outcome State) → step j s w ≡ o → ((t : State) → is_state j t ≡ true → is_state j (steps j t ws).state ≡ true) → is_state j (steps j s (w ∷ ws)).state ≡ true
      go (moved t) m ih = rw (steps_on j s w ws t m) (ih t (step_stays s w t m e))
      go (halted k) m ih = rw (steps_end j s w ws k m) e
