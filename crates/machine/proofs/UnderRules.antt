-- A schedule that stops at every refused pick is a list of picks; one that skips those that cannot move is a round.
use mathlib.Core.Path.{◌≡◌, refl, ap, ◌∙◌, fun_ext}
use mathlib.Core.Bool.{Bool}
use mathlib.Core.List.{List}
use Prim.Native.Nat.{ℕ}
use Rattle.run.specs.Job.{Job}
use Rattle.run.specs.Machine.{step, steps}
use Rattle.run.specs.Schedule.{pass, skips_none}
use Rattle.run.specs.Rounds.{skips, round}
use Rattle.run.specs.State.{State}
use Rattle.run.proofs.Rounds.{all_taken, no_skips}
use Rattle.machine.specs.Code.Stepped.{passes_over, walk}
use Rattle.machine.specs.declared.state.Rule.TheVariants.{Stop, Skip}

module _ (j : Job) (s : State) (ws : List ℕ) where
  under : (f g : ℕ → Bool) → ((k : ℕ) → f k ≡ g k) → pass f (step j) s ws ≡ pass g (step j) s ws
  under f g h = ap (λ (e : ℕ → Bool). pass e (step j) s ws) (fun_ext h)

  pub stop_steps : walk Stop j s ws ≡ all_taken (steps j s ws)
  unfolding passes_over
  stop_steps = under (passes_over Stop) skips_none (λ k. refl) ∙ no_skips j s ws

  pub skip_round : walk Skip j s ws ≡ round j s ws
  unfolding passes_over
  skip_round = under (passes_over Skip) skips (λ k. refl)
