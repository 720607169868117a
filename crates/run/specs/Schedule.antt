-- A schedule on any machine: every pick is a step, a skip or the end.
use Rattle.std.specs.Prelude.{Bool, true, false, List, [], ◌∷◌, ℕ, suc}
use Rattle.run.specs.Machine.{Outcome, moved, halted}

-- what it comes to: the state, how many picks were taken, how many were met before the end, and the number that ended
-- it
pub record Passed (S : Type 0) : Type 0 where
  pub state : S
  pub taken : ℕ
  pub met : ℕ
  pub number : ℕ

module _ {S : Type 0} where
  unfoldable pub one_taken : Passed S → Passed S
  one_taken r = record { state = r.state; taken = suc r.taken; met = suc r.met; number = r.number }

  unfoldable pub one_skipped : Passed S → Passed S
  one_skipped r = record { state = r.state; taken = r.taken; met = suc r.met; number = r.number }

  -- skips: the numbers that pass over a pick and do not end the schedule
  unfoldable pub pass : (skips : ℕ → Bool) (step : S → ℕ → Outcome S) → S → (schedule : List ℕ) → Passed S
  pass skips step s [] = record { state = s; taken = 0; met = 0; number = 0 }
  pass skips step s (w ∷ ws) =
      elim (step s w) [ moved t ↦ one_taken (pass skips step t ws) | halted k ↦ elim (skips k) [ true ↦ one_skipped (pass skips step s ws) | false ↦ record { state = s; taken = 0; met = 0; number = k } ] ]

-- in a call of picks every number ends it
abbrev pub skips_none : (number : ℕ) → Bool
skips_none number = false
