-- The calls for both on lent lists that pass their checks are the calls on the roof in them.
use mathlib.Core.Path.{◌≡◌, refl, ap}
use mathlib.Core.Bool.{true}
use mathlib.Core.List.{List}
use Prim.Native.Nat.{ℕ}
use lib.IntN.{ℤ}
use Rattle.base.proofs.Replies.{in_turn-all}
use Rattle.matrix.specs.Matrix.{Matrix}
use Rattle.run.specs.Job.{job_of}
use Rattle.run.specs.Answers.{force_list}
use Rattle.run.specs.Calls.{job_checks}
use Rattle.run.specs.State.{State}
use Rattle.run.specs.LentRuns.{passed, LentRun}
use Rattle.run.proofs.Sequence.{all_answered, all_left}
use Rattle.run.proofs.LentRuns.{each_holds, lent_runs}
use Rattle.crews.specs.Crews.{Crew, crew0, crew1, Two, own_of, Roof}
use Rattle.crews.specs.Calls.{BothCall, picks_both, ready_sets, forces_for, one, denied_both, answer_both, after_both, roof_of, roof_checks, answer_both_lent, after_both_lent}
use Rattle.crews.specs.TwoCrews.{both_fresh, both_state, both_answers, passed_both, LentBoth}

module _ (m : Matrix) (x : Two (List ℤ)) (order groups : List ℕ) (count : ℕ) (h : passed_both m x order groups count ≡ true) where
  -- each crew's lists pass by themselves
  pub own-passed : (c : Crew) → passed m (own_of x c) order groups count ≡ true
  unfolding passed_both passed roof_checks job_checks
  own-passed crew0 = let e = each_holds (roof_checks m x order groups count) h in rw (e.0, e.1.0, e.1.1.1.0) refl
  own-passed crew1 = let e = each_holds (roof_checks m x order groups count) h in rw (e.0, e.1.1.0, e.1.1.1.0) refl

  own : (c : Crew) → LentRun m (own_of x c) order groups count
  own c = lent_runs.every m (own_of x c) order groups count (own-passed c)

  pub lent_both : LentBoth m x order groups count
  unfolding passed_both answer_both_lent after_both_lent answer_both roof_of job_of
  lent_both = record {
    accepted = λ c. (own c).accepted;
    answered = answered;
    left = left;
    all_answered = λ cs. unfold both_answers in (all_answered (answer_both roof) (after_both roof) (answer_both_lent m x order groups count) (after_both_lent m x order groups count) (λ s. s) (λ s. Unit {0}) (λ s k. answered s) (λ s k. left s) (λ s k c. tt) (both_fresh m.n) tt cs);
    all_left = λ cs. unfold both_state in (all_left (answer_both roof) (after_both roof) (answer_both_lent m x order groups count) (after_both_lent m x order groups count) (λ s. s) (λ s. Unit {0}) (λ s k. answered s) (λ s k. left s) (λ s k c. tt) (both_fresh m.n) tt cs);
  }
    where
      roof : Roof
      roof = roof_of m x order groups count

      answered : (s : Two State) (c : BothCall) → answer_both_lent m x order groups count s c ≡ answer_both (roof_of m x order groups count) s c
      answered s (picks_both bs) = in_turn-all denied_both (roof_checks m x order groups count) _ h
      answered s ready_sets = in_turn-all denied_both (roof_checks m x order groups count) _ h
      answered s (forces_for c room) = ap one ((own c).answered (own_of s c) (force_list room))

      left : (s : Two State) (c : BothCall) → after_both_lent m x order groups count s c ≡ after_both (roof_of m x order groups count) s c
      left s c = in_turn-all (λ number place. s) (roof_checks m x order groups count) _ h
