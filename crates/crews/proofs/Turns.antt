-- What a pick for both does, and a schedule: of any roof and any states.
use mathlib.Core.Path.{◌≡◌, refl, sym, ap, ◌∙◌}
use mathlib.Core.Logic.{◌⊎◌, inl, inr}
use mathlib.Core.Bool.{Bool, true, false}
use mathlib.Core.List.{List, [], ◌∷◌}
use Prim.Native.Nat.{ℕ, zero, suc, ◌/◌, ◌%◌, ◌≤◌}
use native.Mathlib.Omega.{arith}
use Rattle.base.specs.Refusals as why
use Rattle.base.proofs.Replies.{in_turn-either}
use Rattle.plan.specs.Sound.{max_workers}
use Rattle.run.specs.Updates.{next}
use Rattle.run.specs.State.{State}
use Rattle.run.specs.Machine.{Outcome, moved, halted, refusal, onward, step_if, step}
use Rattle.run.specs.Schedule.{skips_none}
use Rattle.run.proofs.Schedule.{step-made}
use Rattle.run.proofs.Passes.{pass-keeps}
use Rattle.crews.specs.Crews.{Crew, crew0, crew1, crew_number, Two, own_of, put_for, Roof, job_for, is_away, unless_away, crew_refusal, crew_step, for_both, turn_for, turn, turns}
use Rattle.run.specs.Sequence.{state_after}
use Rattle.crews.specs.Calls.{BothCall, picks_both, ready_sets, forces_for, state_checks, after_both}

-- ---- a step for a crew

-- what is not refused is not refused by its own crew's counts, and its worker is not away
pub not_away : (k : ℕ) (b : Bool) → unless_away k b ≡ 0 → (k ≡ 0) × (b ≡ false)
unfolding unless_away
not_away zero false e = (refl, refl)
not_away zero true e = absurd (omega arith)
not_away (suc k) b e = absurd (omega arith)

module _ (r : Roof) (s : Two State) (c : Crew) (w : ℕ) where
  -- it is refused
  pub crew_end : (k : ℕ) → crew_refusal r s c w ≡ suc k → crew_step r s c w ≡ halted (suc k)
  unfolding crew_step step_if
  crew_end k e = rw e refl

  -- it is not: then it is the step of the crew's own run
  pub crew-own : crew_refusal r s c w ≡ 0 → crew_step r s c w ≡ step (job_for r c) (own_of s c) w
  unfolding crew_refusal crew_step step
  crew-own e =
      ap (λ (k : ℕ). step_if k (own_of s c) w (next (job_for r c) (own_of s c).made w)) (e ∙ sym (not_away (refusal (job_for r c) (own_of s c).made w) (is_away r s c w) e).0)

  -- a step that is taken
  pub record CrewMoved (t : State) : Type 0 where
    pub free : crew_refusal r s c w ≡ 0
    pub own : step (job_for r c) (own_of s c) w ≡ moved t
    pub here : is_away r s c w ≡ false
    pub made : t.made ≡ onward (own_of s c).made w

  pub crew-moved : (t : State) → crew_step r s c w ≡ moved t → CrewMoved t
  crew-moved t h = go (crew_refusal r s c w) refl
    where
      go : (k : ℕ) → crew_refusal r s c w ≡ k → CrewMoved t
      go zero e =
          let own : step (job_for r c) (own_of s c) w ≡ moved t = sym (crew-own e) ∙ h in
          record {
            free = e;
            own = own;
            here = (not_away (refusal (job_for r c) (own_of s c).made w) (is_away r s c w) (unfold crew_refusal in e)).1;
            made = step-made (job_for r c) (own_of s c) w t own;
          }
      go (suc k) e = let x : halted (suc k) ≡ moved t = sym (crew_end k e) ∙ h in absurd (let z : ◌≡◌ {A = ℕ} 0 1 = cc in omega arith)

-- ---- a pick

-- the crew that a pick names, if any
pub who : (b : ℕ) → ((c : Crew) × (b / max_workers ≡ crew_number c)) ⊎ (2 ≤ b / max_workers)
who b = go (b / max_workers) refl
  where
    go : (k : ℕ) → b / max_workers ≡ k → ((c : Crew) × (b / max_workers ≡ crew_number c)) ⊎ (2 ≤ b / max_workers)
    go zero e = inl (crew0, e)
    go (suc zero) e = inl (crew1, e)
    go (suc (suc k)) e = inr (omega arith)

module _ (r : Roof) (s : Two State) (b : ℕ) where
  pub turn-for : (c : Crew) → b / max_workers ≡ crew_number c → turn r s b ≡ for_both s c (crew_step r s c (b % max_workers))
  unfolding turn turn_for
  turn-for crew0 e = rw e refl
  turn-for crew1 e = rw e refl

  pub turn-none : 2 ≤ b / max_workers → turn r s b ≡ halted why.no_crew
  unfolding turn
  turn-none l = go (b / max_workers) l
    where
      go : (k : ℕ) → 2 ≤ k → turn_for r s k (b % max_workers) ≡ halted why.no_crew
      go zero l = absurd (omega arith)
      go (suc zero) l = absurd (omega arith)
      go (suc (suc k)) l = unfold turn_for in refl

  -- a pick that is taken
  pub record Took (t : Two State) : Type 0 where
    pub crew : Crew
    pub named : b / max_workers ≡ crew_number crew
    pub state : State
    pub moves : crew_step r s crew (b % max_workers) ≡ moved state
    pub is : t ≡ put_for s crew state

  pub took : (t : Two State) → turn r s b ≡ moved t → Took t
  took t h = go (who b)
    where
      none : halted why.no_crew ≡ moved t → Took t
      none e = absurd (let z : ◌≡◌ {A = ℕ} 0 1 = cc in omega arith)

      by : (c : Crew) → b / max_workers ≡ crew_number c → (o : Outcome State) → crew_step r s c (b % max_workers) ≡ o → for_both s c o ≡ moved t → Took t
      by c e (moved u) m x = record { crew = c; named = e; state = u; moves = m; is = let y : moved (put_for s c u) ≡ moved t = unfold for_both in x in cc }
      by c e (halted k) m x = absurd (let y : halted k ≡ moved t = unfold for_both in x in let z : ◌≡◌ {A = ℕ} 0 1 = cc in omega arith)

      go : ((c : Crew) × (b / max_workers ≡ crew_number c)) ⊎ (2 ≤ b / max_workers) → Took t
      go (inl (c, e)) = by c e (crew_step r s c (b % max_workers)) refl (sym (turn-for c e) ∙ h)
      go (inr l) = none (sym (turn-none l) ∙ h)

-- ---- what every step for a crew keeps, every call for both keeps

module _ (r : Roof) (P : Two State → Type 0) (step_Keeps : (s : Two State) (c : Crew) (w : ℕ) (t : State) → crew_step r s c w ≡ moved t → P s → P (put_for s c t)) where
  turn-keeps : (s : Two State) (b : ℕ) (t : Two State) → turn r s b ≡ moved t → P s → P t
  turn-keeps s b t e p = let k = took r s b t e in rw k.is (step_Keeps s k.crew (b % max_workers) k.state k.moves p)

  pub call_keeps : (s : Two State) (c : BothCall) → P s → P (after_both r s c)
  unfolding after_both
  call_keeps s (picks_both bs) p = in_turn-either P s (turns r s bs).state (state_checks r s) p (pass-keeps skips_none (turn r) P turn-keeps s bs p)
  call_keeps s ready_sets p = p
  call_keeps s (forces_for c room) p = p

  pub calls-keep : (s : Two State) (cs : List BothCall) → P s → P (state_after (after_both r) s cs)
  unfolding state_after
  calls-keep s [] p = p
  calls-keep s (c ∷ cs) p = calls-keep (after_both r s c) cs (call_keeps s c p)
