-- What a round has to do with a list of picks: of any job and any state.
use mathlib.Core.Path.{◌≡◌, refl, ap, ◌∙◌}
use mathlib.Core.Bool.{Bool, true, false}
use mathlib.Core.List.{List, [], ◌∷◌}
use Prim.Native.Nat.{ℕ, suc}
use native.Mathlib.Omega.{arith}
use Rattle.run.specs.Job.{Job}
use Rattle.run.specs.Machine.{Outcome, moved, halted, step, one_more, steps}
use Rattle.run.specs.Schedule.{one_taken, one_skipped, pass}
use Rattle.run.specs.Rounds.{skips, taken_by}
use Rattle.run.specs.State.{State}
use Rattle.run.proofs.Passes.{pass_on, pass_skip, pass_end}
use Rattle.run.proofs.Rounds.{no_skips, taken_on, taken_skip, taken_end}
use Rattle.run.proofs.Schedule.{steps_on}
use Rattle.rounds.specs.Rounds.{Skipping}

module _ (j : Job) where
  pub skipping : (s : State) (ws : List ℕ) → Skipping j s ws
  unfolding pass one_taken one_skipped steps one_more taken_by
  skipping s [] = record { no_skips = no_skips j s []; as_picks = refl; all-taken = refl; stopped = λ k e. absurd (omega arith) }
  skipping s (w ∷ ws) = go (step j s w) refl (λ t. skipping t ws)
    where
      go : (o : Outcome State) → step j s w ≡ o → ((t : State) → Skipping j t ws) → Skipping j s (w ∷ ws)
      go (moved t) e ih =
          let a = ih t in
          let on = pass_on skips (step j) s w ws t e in
          let by = taken_on (step j) s w ws t e in
          record {
            no_skips = no_skips j s (w ∷ ws);
            as_picks = rw (on, by, steps_on j s w (taken_by (step j) t ws) t e) (ap one_more a.as_picks);
            all-taken = rw (on, by) (ap suc a.all-taken);
            stopped = rw on (λ k n. let r = a.stopped k n in (omega (arith, r.0), r.1, r.2));
          }
      go (halted i) e ih = by (skips i) refl
        where
          by : (b : Bool) → skips i ≡ b → Skipping j s (w ∷ ws)
          by true h =
              let a = ih s in
              let on = pass_skip skips (step j) s w ws i e h in
              let by = taken_skip (step j) s w ws i e h in
              record {
                no_skips = no_skips j s (w ∷ ws);
                as_picks = rw (on, by) a.as_picks;
                all-taken = rw (on, by) a.all-taken;
                stopped = rw on (λ k n. let r = a.stopped k n in (omega (arith, r.0), r.1, r.2));
              }
          by false h =
              let on = pass_end skips (step j) s w ws i e h in
              let by = taken_end (step j) s w ws i e h in
              record { no_skips = no_skips j s (w ∷ ws); as_picks = rw (on, by) refl; all-taken = rw (on, by) refl; stopped = rw on (λ k n. (omega arith, e ∙ ap halted n, rw (← n) h)) }
