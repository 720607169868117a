-- Q-14: a list of picks that passes over the workers which cannot move.
use Rattle.std.specs.Prelude.{Bool, true, false, ◌||◌, List, [], ◌∷◌, ℕ, eqb}
use Rattle.base.specs.Refusals as why
use Rattle.run.specs.Job.{Job}
use Rattle.run.specs.Machine.{Outcome, moved, halted, step}
use Rattle.run.specs.Schedule.{Passed, pass}
use Rattle.run.specs.State.{State}

-- "In this kind of call 12 and 13 skip a pick and the rest stop it as before"
unfoldable pub skips : (number : ℕ) → Bool
skips number = eqb number why.all_done || eqb number why.must_wait

-- what it comes to
abbrev pub round : Job → State → (schedule : List ℕ) → Passed State
round j s ws = pass skips (step j) s ws

-- the picks that it takes, in their order; of any machine
module _ {S : Type 0} (step : S → ℕ → Outcome S) where
  unfoldable pub taken_by : S → (schedule : List ℕ) → List ℕ
  taken_by s [] = []
  taken_by s (w ∷ ws) = elim (step s w) [ moved t ↦ w ∷ taken_by t ws | halted k ↦ elim (skips k) [ true ↦ taken_by s ws | false ↦ [] ] ]
