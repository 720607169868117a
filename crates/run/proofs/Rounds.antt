-- A round from a state with the invariant is the model's, one access for each pick that it takes; and what holds of any
-- round.
use mathlib.Core.Path.{◌≡◌, refl, sym, ap, ◌∙◌}
use mathlib.Core.Bool.{Bool, true, false}
use mathlib.Core.List.{List, [], ◌∷◌}
use Prim.Native.Nat.{ℕ, zero, suc}
use Rattle.run.specs.Job.{Job}
use Rattle.run.specs.Machine.{Outcome, moved, halted, refusal, onward, step, Stepped, one_more, steps}
use Rattle.run.specs.Schedule.{Passed, one_taken, one_skipped, pass, skips_none}
use Rattle.run.specs.Rounds.{skips, round, taken_by}
use Rattle.run.specs.State.{State}
use Rattle.run.specs.Model.{added, ending, note_one, note_round}
use Rattle.run.specs.OneAccess.{Walk, stay, and_then}
use Rattle.run.proofs.Facts.{Facts}
use Rattle.run.proofs.Invariant.{Inv}
use Rattle.run.proofs.Book.{ending-is}
use Rattle.run.proofs.Passes.{pass_on, pass_skip, pass_end}
use Rattle.run.proofs.Schedule.{step_end, steps_on, steps_end}
use Rattle.run.proofs.Taken.{taken}

-- a call of picks is a schedule that skips nothing: each pick met is taken
abbrev pub all_taken : Stepped → Passed State
all_taken r = record { state = r.state; taken = r.taken; met = r.taken; number = r.number }

pub no_skips : (j : Job) (s : State) (ws : List ℕ) → pass skips_none (step j) s ws ≡ all_taken (steps j s ws)
unfolding pass steps one_taken one_more
no_skips j s [] = refl
no_skips j s (w ∷ ws) = go (step j s w) refl (λ t. no_skips j t ws)
  where
    go : (o : Outcome State) → step j s w ≡ o → ((t : State) → pass skips_none (step j) t ws ≡ all_taken (steps j t ws)) → pass skips_none (step j) s (w ∷ ws) ≡ all_taken (steps j s (w ∷ ws))
    go (moved t) e ih = rw (pass_on skips_none (step j) s w ws t e, steps_on j s w ws t e) (ap one_taken (ih t))
    go (halted k) e ih = rw (pass_end skips_none (step j) s w ws k e refl, steps_end j s w ws k e) refl

-- the picks that are taken
module _ {S : Type 0} (one : S → ℕ → Outcome S) (s : S) (w : ℕ) (ws : List ℕ) where
  pub taken_on : (t : S) → one s w ≡ moved t → taken_by one s (w ∷ ws) ≡ w ∷ taken_by one t ws
  unfolding taken_by
  taken_on t e = rw (e, taken_by)

  pub taken_skip : (k : ℕ) → one s w ≡ halted k → skips k ≡ true → taken_by one s (w ∷ ws) ≡ taken_by one s ws
  unfolding taken_by
  taken_skip k e h = rw (e, h, taken_by)

  pub taken_end : (k : ℕ) → one s w ≡ halted k → skips k ≡ false → taken_by one s (w ∷ ws) ≡ []
  unfolding taken_by
  taken_end k e h = rw (e, h, taken_by)

-- a pick by the counts
module _ (j : Job) (counts : List ℕ) (w : ℕ) where
  pub noted_on : ending j counts w ≡ 0 → note_one j counts w ≡ moved (added counts w)
  unfolding note_one
  noted_on e = rw (e, note_one)

  pub noted_end : (k : ℕ) → ending j counts w ≡ suc k → note_one j counts w ≡ halted (suc k)
  unfolding note_one
  noted_end k e = rw (e, note_one)

module _ (j : Job) (F : Facts j) where
  -- a round by the machine and by the model
  pub record Agree (s : State) (ws : List ℕ) : Type 0 where
    pub inv : Inv j (round j s ws).state
    pub made : (round j s ws).state.made ≡ (note_round j s.made ws).state
    pub count : (round j s ws).taken ≡ (note_round j s.made ws).taken
    pub met : (round j s ws).met ≡ (note_round j s.made ws).met
    pub number : (round j s ws).number ≡ (note_round j s.made ws).number
    pub walked : Walk j s (taken_by (note_one j) s.made ws) (round j s ws).state

  pub round_model : (s : State) → Inv j s → (ws : List ℕ) → Agree s ws
  unfolding pass one_taken one_skipped added onward taken_by
  round_model s I [] = record { inv = I; made = refl; count = refl; met = refl; number = refl; walked = stay }
  round_model s I (w ∷ ws) = go (refusal j s.made w) refl (λ t K. round_model t K ws)
    where
      same : (k : ℕ) → refusal j s.made w ≡ k → ending j s.made w ≡ k
      same k e = ending-is j s.made I.bounded w ∙ e

      go : (k : ℕ) → refusal j s.made w ≡ k → ((t : State) → Inv j t → Agree t ws) → Agree s (w ∷ ws)
      go zero e ih =
          let t = taken j F s I w e in
          let a = ih t.state t.inv in
          let n : note_one j s.made w ≡ moved t.state.made = noted_on j s.made w (same 0 e) ∙ ap moved (sym t.made) in
          let on = pass_on skips (step j) s w ws t.state t.is in
          let noted = pass_on skips (note_one j) s.made w ws t.state.made n in
          record {
            inv = rw on a.inv;
            made = rw (on, noted) a.made;
            count = rw (on, noted) (ap suc a.count);
            met = rw (on, noted) (ap suc a.met);
            number = rw (on, noted) a.number;
            walked = rw (on, taken_on (note_one j) s.made w ws t.state.made n) (and_then t.one a.walked);
          }
      go (suc k) e ih = by (skips (suc k)) refl
        where
          halts : step j s w ≡ halted (suc k)
          halts = step_end j s w k e

          noted : note_one j s.made w ≡ halted (suc k)
          noted = noted_end j s.made w k (same (suc k) e)

          by : (b : Bool) → skips (suc k) ≡ b → Agree s (w ∷ ws)
          by true h =
              let a = ih s I in
              let on = pass_skip skips (step j) s w ws (suc k) halts h in
              let onto = pass_skip skips (note_one j) s.made w ws (suc k) noted h in
              record {
                inv = rw on a.inv;
                made = rw (on, onto) a.made;
                count = rw (on, onto) a.count;
                met = rw (on, onto) (ap suc a.met);
                number = rw (on, onto) a.number;
                walked = rw (on, taken_skip (note_one j) s.made w ws (suc k) noted h) a.walked;
              }
          by false h =
              let on = pass_end skips (step j) s w ws (suc k) halts h in
              let onto = pass_end skips (note_one j) s.made w ws (suc k) noted h in
              record {
                inv = rw on I;
                made = rw (on, onto) refl;
                count = rw (on, onto) refl;
                met = rw (on, onto) refl;
                number = rw (on, onto) refl;
                walked = rw (on, taken_end (note_one j) s.made w ws (suc k) noted h) stay;
              }
