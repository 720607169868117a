-- In which order a pick for both is refused by the counts, and who is in the ready sets.
use mathlib.Core.Path.{◌≡◌, refl, ap, ◌∙◌}
use mathlib.Core.Bool.{Bool, true, false, not, ◌&&◌}
use Prim.Native.Nat.{ℕ, zero, suc, ◌+◌, ◌*◌, ◌/◌, ◌%◌, ◌<◌}
use native.Mathlib.Omega.{arith}
use Rattle.base.specs.Lists.{is_in}
use Rattle.base.proofs.Lists.{is_in-filter}
use Rattle.plan.specs.Sound.{max_workers}
use Rattle.run.specs.Updates.{next}
use Rattle.run.specs.State.{State}
use Rattle.run.specs.Machine.{refusal, step_if, step, ready}
use Rattle.crews.specs.Crews.{Crew, crew0, crew1, other, crew_number, Two, own_of, Roof, job_for, in_row, is_away, unless_away, crew_refusal, crew_step, for_both, turn, crew_ready}
use Rattle.crews.specs.TwoCrews.{PicksInOrder}
use Rattle.crews.proofs.Turns.{crew_end, turn-for, turn-none}

and_false : (b : Bool) → b && false ≡ false
and_false true = refl
and_false false = refl

and-true : (b : Bool) → b && true ≡ b
and-true true = refl
and-true false = refl

module _ (r : Roof) (s : Two State) where
  pub named : (c : Crew) (w : ℕ) → w < max_workers → turn r s (max_workers * crew_number c + w) ≡ for_both s c (crew_step r s c w)
  named c w l = turn-for r s (max_workers * crew_number c + w) c (crew c) ∙ ap (λ (v : ℕ). for_both s c (crew_step r s c v)) (worker c)
    where
      crew : (c : Crew) → (max_workers * crew_number c + w) / max_workers ≡ crew_number c
      crew crew0 = omega arith
      crew crew1 = omega arith

      worker : (c : Crew) → (max_workers * crew_number c + w) % max_workers ≡ w
      worker crew0 = omega arith
      worker crew1 = omega arith

  pub in_order : PicksInOrder r s
  unfolding crew_refusal unless_away is_away crew_ready crew_step step
  in_order = record {
    named = named;
    crewless = λ b l. turn-none r s b (omega arith);
    own_first = λ c w k e. crew_end r s c w k (rw e refl);
    then_away = λ c w e h. crew_end r s c w 18 (rw (e, h) refl);
    else_own = λ c w h. ap (λ (k : ℕ). step_if k (own_of s c) w (next (job_for r c) (own_of s c).made w)) (rw h (here (refusal (job_for r c) (own_of s c).made w)));
    left_out = λ c w h. member c w ∙ rw h (and_false (is_in (ready (job_for r c) (own_of s c).made) w));
    left_in = λ c w h. member c w ∙ rw h (and-true (is_in (ready (job_for r c) (own_of s c).made) w));
  }
    where
      here : (k : ℕ) → unless_away k false ≡ k
      here zero = refl
      here (suc k) = refl

      -- who is in a crew's ready set
      member : (c : Crew) (w : ℕ) → is_in (crew_ready r s c) w ≡ is_in (ready (job_for r c) (own_of s c).made) w && not (in_row (job_for r (other c)) (own_of s (other c)).made w)
      member c w = is_in-filter (λ v. not (is_away r s c v)) (ready (job_for r c) (own_of s c).made) w
