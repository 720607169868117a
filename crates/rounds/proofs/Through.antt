-- From a state with the invariant a round that names workers of the plan goes through, and makes an access if it names
-- one that may move.
use mathlib.Core.Path.{◌≡◌, refl, sym, ap, ◌∙◌, subst}
use mathlib.Core.Logic.{◌⊎◌, inl, inr}
use mathlib.Core.Bool.{Bool, true, false}
use mathlib.Core.List.{List, [], ◌∷◌, ◌++◌, append-nil}
use Prim.Native.Nat.{ℕ, zero, suc, ◌+◌, ◌≤◌, ◌<◌}
use native.Mathlib.Omega.{arith}
use lib.ListN.{length}
use lib.Dec.{eqb, ltb, leb}
use borrow.Author.Tests.{ltb-true, lt-ltb, eqb-true}
use Rattle.base.specs.Lists.{all, is_in}
use Rattle.base.specs.Refusals as why
use Rattle.base.proofs.Booleans.{and_left, and_right, or_cases, clash}
use Rattle.run.specs.Job.{Job, workers}
use Rattle.run.specs.Updates.{count, accesses, waits}
use Rattle.run.specs.Machine.{step, reason, refusal}
use Rattle.run.specs.State.{State}
use Rattle.run.specs.Schedule.{Passed, one_taken, one_skipped, pass}
use Rattle.run.proofs.Facts.{Facts}
use Rattle.run.proofs.Invariant.{Inv}
use Rattle.run.proofs.Able.{in_order_lem}
use Rattle.run.proofs.Schedule.{step_end}
use Rattle.run.proofs.Passes.{pass_on, pass_skip, pass_end}
use Rattle.run.proofs.Taken.{taken}
use Rattle.run.specs.Rounds.{skips, round}

-- a worker of the plan is refused by its counts only with 12 or 13
skip_reason : (done waiting : Bool) (k : ℕ) → reason true done waiting ≡ suc k → skips (suc k) ≡ true
unfolding reason skips
skip_reason true waiting k e = rw (← e) refl
skip_reason false true k e = rw (← e) refl
skip_reason false false k e = absurd (omega arith)

module _ (j : Job) (F : Facts j) where
  skipped : (made : List ℕ) (w k : ℕ) → w < workers j → refusal j made w ≡ suc k → skips (suc k) ≡ true
  unfolding refusal
  skipped made w k l e = skip_reason (leb (accesses j w) (count made w)) (waits j made w) k (sym (ap (λ (b : Bool). reason b (leb (accesses j w) (count made w)) (waits j made w)) (lt-ltb w (workers j) l)) ∙ e)

  abbrev known : ℕ → Bool
  known w = ltb w (workers j)

  -- a call goes through the workers of the plan that it names first: what is left of it decides
  record Through (s : State) (ws vs : List ℕ) : Type 0 where
    state : State
    inv : Inv j state
    number : (round j s (ws ++ vs)).number ≡ (round j state vs).number
    met : (round j s (ws ++ vs)).met ≡ length ws + (round j state vs).met

  goes_through : (s : State) → Inv j s → (ws vs : List ℕ) → all known ws ≡ true → Through s ws vs
  unfolding one_taken one_skipped
  goes_through s I [] vs h = record { state = s; inv = I; number = refl; met = omega arith }
  goes_through s I (w ∷ ws) vs h = go (refusal j s.made w) refl (λ t K. goes_through t K ws vs (and_right (known w) (all known ws) h))
    where
      go : (k : ℕ) → refusal j s.made w ≡ k → ((t : State) → Inv j t → Through t ws vs) → Through s (w ∷ ws) vs
      go zero e ih =
          let t = taken j F s I w e in
          let r = ih t.state t.inv in
          let on = pass_on skips (step j) s w (ws ++ vs) t.state t.is in
          record { state = r.state; inv = r.inv; number = rw on r.number; met = rw on (omega (arith, r.met)) }
      go (suc k) e ih =
          let r = ih s I in
          let on = pass_skip skips (step j) s w (ws ++ vs) (suc k) (step_end j s w k e) (skipped s.made w k (ltb-true w (workers j) (and_left (known w) (all known ws) h)) e) in
          record { state = r.state; inv = r.inv; number = rw on r.number; met = rw on (omega (arith, r.met)) }

  -- .. to its end, if it names nobody else
  pub through : (s : State) → Inv j s → (ws : List ℕ) → all known ws ≡ true → (round j s ws).number ≡ 0
  unfolding pass
  through s I ws h = subst (λ (us : List ℕ). (round j s us).number ≡ 0) (append-nil ws) (goes_through s I ws [] h).number

  -- .. to the first stranger
  pub stops : (s : State) → Inv j s → (ws vs : List ℕ) (w : ℕ) → all known ws ≡ true → workers j ≤ w → ((round j s (ws ++ (w ∷ vs))).number ≡ why.no_worker) × ((round j s (ws ++ (w ∷ vs))).met ≡ length ws)
  stops s I ws vs w h l =
      let t = goes_through s I ws (w ∷ vs) h in
      let halts = step_end j t.state w 9 ((in_order_lem.every j t.state.made w).stranger l) in
      let ends = pass_end skips (step j) t.state w vs why.no_worker halts (unfold skips in refl) in
      (t.number ∙ ap (λ (r : Passed State). r.number) ends, t.met ∙ ap (λ (r : Passed State). length ws + r.met) ends ∙ (let z : length ws + 0 ≡ length ws = omega arith in z))

  -- .. and makes an access, if some worker that it names may move
  pub moves : (s : State) → Inv j s → (v : ℕ) → refusal j s.made v ≡ 0 → (ws : List ℕ) → all known ws ≡ true → is_in ws v ≡ true → 1 ≤ (round j s ws).taken
  unfolding one_taken one_skipped
  moves s I v z [] h i = absurd (clash i refl)
  moves s I v z (w ∷ ws) h i = go (refusal j s.made w) refl (moves s I v z ws (and_right (known w) (all known ws) h))
    where
      later : (k : ℕ) → refusal j s.made w ≡ suc k → (eqb v w ≡ true) ⊎ (is_in ws v ≡ true) → is_in ws v ≡ true
      later k e (inl q) = absurd (let x : refusal j s.made w ≡ 0 = subst (λ (y : ℕ). refusal j s.made y ≡ 0) (eqb-true v w q) z in omega arith)
      later k e (inr q) = q

      go : (k : ℕ) → refusal j s.made w ≡ k → (is_in ws v ≡ true → 1 ≤ (round j s ws).taken) → 1 ≤ (round j s (w ∷ ws)).taken
      go zero e ih = let t = taken j F s I w e in rw (pass_on skips (step j) s w ws t.state t.is) (omega arith)
      go (suc k) e ih =
          rw (pass_skip skips (step j) s w ws (suc k) (step_end j s w k e) (skipped s.made w k (ltb-true w (workers j) (and_left (known w) (all known ws) h)) e))
          (ih (later k e (or_cases (eqb v w) (is_in ws v) i)))
