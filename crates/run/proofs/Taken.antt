-- From a state with the invariant the machine takes just the steps that the model takes: 14 is never met.
use mathlib.Core.Path.{◌≡◌, refl, sym, ap, ◌∙◌, subst}
use mathlib.Core.Logic.{◌≢◌}
use mathlib.Core.Bool.{Bool, true, false}
use mathlib.Core.List.{List, [], ◌∷◌}
use Prim.Native.Nat.{ℕ, zero, suc, ◌%◌}
use native.Mathlib.Omega.{arith}
use lib.ListN.{take}
use lib.Dec.{eqb}
use borrow.Author.Tests.{eqb-true, eqb-false}
use Rattle.run.specs.Job.{Job}
use Rattle.run.specs.Updates.{count, next}
use Rattle.run.specs.Machine.{refusal, moved, halted, onward, load, store, access, move, step_if, step, Stepped, one_more, steps}
use Rattle.run.specs.State.{State}
use Rattle.run.specs.Model.{Noted, added, one_noted, note}
use Rattle.run.specs.OneAccess.{OneAccess, Walk, stay, and_then}
use Rattle.run.proofs.Facts.{Facts}
use Rattle.run.proofs.Invariant.{Inv}
use Rattle.run.proofs.Able.{Able, able}
use Rattle.run.proofs.Book.{ending-is}
use Rattle.run.proofs.Kept.{inv_load, inv_store, store-fits}
use Rattle.run.proofs.OneAccess.{one-load, one_store}
use Rattle.run.proofs.Schedule.{step_end, steps_on, steps_end, note_on, note_end}

-- a step that is taken from s, to a state that has the invariant
pub record Step (j : Job) (s : State) (w : ℕ) : Type 0 where
  pub state : State
  pub is : step j s w ≡ moved state
  pub one : OneAccess j s w state
  pub made : state.made ≡ onward s.made w
  pub inv : Inv j state

module _ (j : Job) (F : Facts j) where
  -- .. and the counts do not refuse: it is taken
  pub taken : (s : State) → Inv j s → (w : ℕ) → refusal j s.made w ≡ 0 → Step j s w
  unfolding step step_if move access load store
  taken s I w e = go (eqb (count s.made w % 2) 0) refl
    where
      a : Able j s.made w
      a = able j s.made w e

      go : (b : Bool) → eqb (count s.made w % 2) 0 ≡ b → Step j s w
      go true p =
          let z : count s.made w % 2 ≡ 0 = eqb-true (count s.made w % 2) 0 p in
          record { state = load s w (next j s.made w); is = rw (e, p) refl; one = one-load j F s I w a z; made = refl; inv = inv_load j F s I w a z }
      go false p =
          let d : count s.made w % 2 ≢ 0 = eqb-false (count s.made w % 2) 0 p in
          let z : count s.made w % 2 ≡ 1 = omega arith in
          record { state = store s w (next j s.made w); is = rw (e, p, store-fits j F s I w a z) refl; one = one_store j F s I w a z; made = refl; inv = inv_store j F s I w a z }

  -- a schedule, by the machine and by the model
  pub record Agree (r : Stepped) (b : Noted) : Type 0 where
    pub inv : Inv j r.state
    pub made : r.state.made ≡ b.counts
    pub count : r.taken ≡ b.taken
    pub number : r.number ≡ b.number

  -- the machine takes the steps that the model takes, and keeps the invariant
  pub steps_model : (s : State) → Inv j s → (ws : List ℕ) → Agree (steps j s ws) (note j s.made ws)
  unfolding steps note one_more one_noted added onward
  steps_model s I [] = record { inv = I; made = refl; count = refl; number = refl }
  steps_model s I (w ∷ ws) = go (refusal j s.made w) refl (λ t K. steps_model t K ws)
    where
      go : (k : ℕ) → refusal j s.made w ≡ k → ((t : State) → Inv j t → Agree (steps j t ws) (note j t.made ws))
          → Agree (steps j s (w ∷ ws)) (note j s.made (w ∷ ws))
      go zero e ih =
          let t = taken s I w e in
          let a = ih t.state t.inv in
          let b : Agree (steps j t.state ws) (note j (onward s.made w) ws) = subst (λ (m : List ℕ). Agree (steps j t.state ws) (note j m ws)) t.made a in
          rw (steps_on j s w ws t.state t.is, note_on j s.made w ws (ending-is j s.made I.bounded w ∙ e)) (record { inv = b.inv; made = b.made; count = ap suc b.count; number = b.number })
      go (suc k) e ih =
          let q : step j s w ≡ halted (suc k) = step_end j s w k e in
          rw (steps_end j s w ws (suc k) q, note_end j s.made w ws k (ending-is j s.made I.bounded w ∙ e)) (record { inv = I; made = refl; count = refl; number = refl })

  -- .. by one access for each step that the model takes
  pub walks : (s : State) → Inv j s → (ws : List ℕ) → Walk j s (take (note j s.made ws).taken ws) (steps j s ws).state
  unfolding steps note one_more one_noted added onward
  walks s I [] = stay
  walks s I (w ∷ ws) = go (refusal j s.made w) refl (λ t K. walks t K ws)
    where
      go : (k : ℕ) → refusal j s.made w ≡ k → ((t : State) → Inv j t → Walk j t (take (note j t.made ws).taken ws) (steps j t ws).state)
          → Walk j s (take (note j s.made (w ∷ ws)).taken (w ∷ ws)) (steps j s (w ∷ ws)).state
      go zero e ih =
          let t = taken s I w e in
          rw (steps_on j s w ws t.state t.is, note_on j s.made w ws (ending-is j s.made I.bounded w ∙ e)) (and_then t.one (subst (λ (m : List ℕ). Walk j t.state (take (note j m ws).taken ws) (steps j t.state ws).state) t.made (ih t.state t.inv)))
      go (suc k) e ih = rw (steps_end j s w ws (suc k) (step_end j s w k e), note_end j s.made w ws k (ending-is j s.made I.bounded w ∙ e)) stay

  -- .. which are those that the machine takes
  pub walks_taken : (s : State) → Inv j s → (ws : List ℕ) → Walk j s (take (steps j s ws).taken ws) (steps j s ws).state
  walks_taken s I ws = subst (λ (k : ℕ). Walk j s (take k ws) (steps j s ws).state) (sym (steps_model s I ws).count) (walks s I ws)
