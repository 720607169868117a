-- The calls on lent lists that pass their checks are the calls on the job in them.
use mathlib.Core.Path.{◌≡◌}
use mathlib.Core.Bool.{true}
use mathlib.Core.List.{List, [], ◌∷◌}
use Prim.Native.Nat.{ℕ, ◌*◌}
use lib.Dec.{leb}
use lib.IntN.{ℤ}
use lib.ListN.{length}
use Rattle.base.specs.Lists.{all}
use Rattle.base.specs.Replies.{Check}
use Rattle.base.proofs.Booleans.{and_left, and_right, conj_at}
use Rattle.base.proofs.Each.{Each}
use Rattle.base.proofs.Replies.{in_turn-all}
use Rattle.matrix.specs.Matrix.{Matrix, matrix_check, displacement_check}
use Rattle.plan.specs.Groups.{width, plan_of}
use Rattle.plan.specs.Sound.{max_groups, is_sound, is_plan, plan_check}
use Rattle.run.specs.Job.{Job, job_of}
use Rattle.run.specs.State.{State, fresh}
use Rattle.run.specs.Calls.{answer, after, job_checks, answer_lent, after_lent}
use Rattle.run.specs.Answers.{Call, denied}
use Rattle.run.specs.Sequence.{answers_from, state_after}
use Rattle.run.specs.EveryRun.{run_state, run_answers}
use Rattle.run.specs.LentRuns.{passed, LentRun, LentRuns}
use Rattle.run.proofs.Sequence.{all_answered, all_left}

-- checks that all hold, one by one
pub each_holds : (cs : List Check) → all (λ c. c.holds) cs ≡ true → Each (λ c. c.holds ≡ true) cs
each_holds [] h = tt
each_holds (c ∷ cs) h = (and_left c.holds (all (λ c. c.holds) cs) h, each_holds cs (and_right c.holds (all (λ c. c.holds) cs) h))

-- a plan in lent lists is sound
plan-sound : (m : Matrix) (order groups : List ℕ) (count : ℕ) → is_plan m order groups count ≡ true → is_sound m (plan_of m.n order groups count) ≡ true
unfolding is_plan
plan-sound m order groups count h =
    conj_at (leb m.n (length order)) (leb count max_groups ∷ leb (width * count) (length groups) ∷ is_sound m (plan_of m.n order groups count) ∷ []) h 2

module _ (m : Matrix) (x : List ℤ) (order groups : List ℕ) (count : ℕ) (h : passed m x order groups count ≡ true) where
  abbrev job : Job
  job = job_of m x order groups count

  abbrev checks : List Check
  checks = job_checks m x order groups count

  each : Each (λ c. c.holds ≡ true) checks
  unfolding passed
  each = each_holds checks h

  answered : (s : State) (c : Call) → answer_lent m x order groups count s c ≡ answer job s c
  unfolding passed answer_lent
  answered s c = in_turn-all denied checks (answer job s c) h

  left : (s : State) (c : Call) → after_lent m x order groups count s c ≡ after job s c
  unfolding passed after_lent
  left s c = in_turn-all (λ number place. s) checks (after job s c) h

  -- one call after the other
  module _ (cs : List Call) where
    alike : answers_from (answer_lent m x order groups count) (after_lent m x order groups count) (fresh m.n) cs ≡ answers_from (answer job) (after job) (fresh m.n) cs
    alike = all_answered (answer job) (after job) (answer_lent m x order groups count) (after_lent m x order groups count) (λ s. s) (λ s. Unit {0}) (λ s k. answered s) (λ s k. left s) (λ s k c. tt) (fresh m.n) tt cs

    same_left : state_after (after_lent m x order groups count) (fresh m.n) cs ≡ state_after (after job) (fresh m.n) cs
    same_left = all_left (answer job) (after job) (answer_lent m x order groups count) (after_lent m x order groups count) (λ s. s) (λ s. Unit {0}) (λ s k. answered s) (λ s k. left s) (λ s k c. tt) (fresh m.n) tt cs

  lent-run : LentRun m x order groups count
  unfolding job_checks matrix_check displacement_check plan_check job_of run_answers run_state
  lent-run = record {
    accepted = record { matrix = each.0; displacements = each.1.0; plan = plan-sound m order groups count each.1.1.0 };
    answered = answered;
    left = left;
    all_answered = alike;
    all_left = same_left;
  }

-- the theorem
pub lent_runs : LentRuns
lent_runs = record { every = lent-run }
