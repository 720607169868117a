-- Q-14, sentence by sentence: what holds of rounds in every run that begins fresh, with calls of all kinds before them.
-- Demand 3 speaks of these runs, too (EveryRun.antt of run): that is "the rest of demand 3 holding".
use Rattle.std.specs.Prelude.{◌≡◌, Bool, true, false, ◌&&◌, List, ◌∷◌, ◌++◌, map, ℕ, suc, ◌+◌, ◌≤◌, ◌<◌, ltb, length, get_or}
use Rattle.base.specs.Lists.{all, is_in, range}
use Rattle.base.specs.Refusals as why
use Rattle.matrix.specs.Product.{product}
use Rattle.run.specs.Job.{Job, Accepted, workers}
use Rattle.run.specs.Machine.{halted, step, steps}
use Rattle.run.specs.Schedule.{pass, skips_none}
use Rattle.run.specs.State.{State}
use Rattle.run.specs.Rounds.{skips, round, taken_by}
use Rattle.run.specs.Calls.{answer}
use Rattle.run.specs.Answers.{Call, force_list, rounds, picked, forces}
use Rattle.run.specs.EveryRun.{taken_of, taken_in, run_state, run_answers, finished_run, whole_run}

-- "each round naming every worker of the plan, and nobody else": in any order, also more than once
unfoldable pub is_round : Job → (schedule : List ℕ) → Bool
is_round j ws = all (λ w. ltb w (workers j)) ws && all (is_in ws) (range 0 (workers j))

pub record Rounds (j : Job) (cs : List Call) : Type 0 where
  -- "From a state reached by one crew from fresh, each round .. makes at least one move until the run is finished"
  pub gets_on : (ws : List ℕ) → is_round j ws ≡ true → finished_run j cs ≡ false → 1 ≤ taken_of (answer j (run_state j cs) (rounds ws))
  -- "So as many rounds as there are moves left will finish it"
  pub finishes : (rs : List (List ℕ)) → all (is_round j) rs ≡ true → whole_run j ≤ taken_in (run_answers j cs) + length rs → finished_run j (cs ++ map rounds rs) ≡ true
  -- ", and the list is the product"
  pub finished_list : (rs : List (List ℕ)) → all (is_round j) rs ≡ true → whole_run j ≤ taken_in (run_answers j cs) + length rs → (room : ℕ) → j.matrix.n ≤ room
      → answer j (run_state j (cs ++ map rounds rs)) (force_list room) ≡ forces (product j.matrix j.displacements)
  -- a call that names workers of the plan alone goes through; else it stops with 10 at the index of the first other
  pub through : (ws : List ℕ) → all (λ w. ltb w (workers j)) ws ≡ true → answer j (run_state j cs) (rounds ws) ≡ picked (round j (run_state j cs) ws).taken 0 0
  pub stops : (ws vs : List ℕ) (w : ℕ) → all (λ w. ltb w (workers j)) ws ≡ true → workers j ≤ w
      → answer j (run_state j cs) (rounds (ws ++ (w ∷ vs))) ≡ picked (round j (run_state j cs) (ws ++ (w ∷ vs))).taken why.no_worker (length ws)

-- "12 and 13 skip a pick and the rest stop it as before", in any state: the picks that a round takes are taken as they
-- stand, with the state that the round leaves; and what stopped it refuses the pick at its place there, and is no skip
pub record Skipping (j : Job) (s : State) (ws : List ℕ) : Type 0 where
  -- a list of picks is a round that skips nothing: each pick met is taken
  pub no_skips : pass skips_none (step j) s ws ≡ record { state = (steps j s ws).state; taken = (steps j s ws).taken; met = (steps j s ws).taken; number = (steps j s ws).number }
  pub as_picks : steps j s (taken_by (step j) s ws) ≡ record { state = (round j s ws).state; taken = (round j s ws).taken; number = 0 }
  pub all-taken : length (taken_by (step j) s ws) ≡ (round j s ws).taken
  pub stopped : (k : ℕ) → (round j s ws).number ≡ suc k
      → ((round j s ws).met < length ws) × (step j (round j s ws).state (get_or ws (round j s ws).met 0) ≡ halted (suc k)) × (skips (suc k) ≡ false)

pub record AlwaysGetOn : Type 0 where
  pub every_run : (j : Job) → Accepted j → (cs : List Call) → Rounds j cs
  pub skipping : (j : Job) (s : State) (ws : List ℕ) → Skipping j s ws
