-- Who is in the ready set: the workers of the plan that the counts do not refuse.
use mathlib.Core.Path.{◌≡◌, refl, sym, ap, ◌∙◌}
use mathlib.Core.Logic.{◌⊎◌, inl, inr, ◌≢◌}
use mathlib.Core.Bool.{Bool, true, false, ◌&&◌, cond}
use mathlib.Core.List.{List, ◌∷◌}
use Prim.Native.Nat.{ℕ, zero, suc}
use native.Mathlib.Omega.{arith}
use lib.Dec.{eqb, ltb}
use borrow.Author.Tests.{eq-eqb, ne_eqb, ltb-true, lt-ltb, le-ltb}
use Rattle.base.specs.Lists.{is_in}
use Rattle.base.proofs.Booleans.{same_or, same_test}
use Rattle.run.specs.Job.{Job, workers}
use Rattle.run.specs.Machine.{refusal, ready_below, ready}
use Rattle.run.proofs.Able.{Able, able-refusal}

module _ (j : Job) (made : List ℕ) where
  ready-below : (w k : ℕ) → is_in (ready_below j made k) w ≡ ltb w k && eqb (refusal j made w) 0
  unfolding ready_below
  ready-below w zero = sym (ap (λ (b : Bool). b && eqb (refusal j made w) 0) (le-ltb w 0 (omega arith)))
  ready-below w (suc k) = go (same_or w k) (ready-below w k)
    where
      rest : List ℕ
      rest = ready_below j made k

      here : (b : Bool) → w ≡ k → is_in rest w ≡ ltb w k && eqb (refusal j made w) 0 → is_in (cond b (k ∷ rest) rest) w ≡ b
      here true q ih = rw (eq-eqb w k q) refl
      here false q ih = ih ∙ rw (le-ltb w k (omega arith)) refl

      below : (b : Bool) → w ≢ k → is_in (cond b (k ∷ rest) rest) w ≡ is_in rest w
      below true d = rw (ne_eqb w k d) refl
      below false d = refl

      go : (w ≡ k) ⊎ (w ≢ k) → is_in rest w ≡ ltb w k && eqb (refusal j made w) 0 → is_in (cond (eqb (refusal j made k) 0) (k ∷ rest) rest) w ≡ ltb w (suc k) && eqb (refusal j made w) 0
      go (inl q) ih = here (eqb (refusal j made k) 0) q ih ∙ sym (rw (lt-ltb w (suc k) (omega arith)) (ap (λ (y : ℕ). eqb (refusal j made y) 0) q))
      go (inr d) ih =
          below (eqb (refusal j made k) 0) d ∙ ih
          ∙ ap (λ (b : Bool). b && eqb (refusal j made w) 0) (same_test (ltb w k) (ltb w (suc k)) (λ h. lt-ltb w (suc k) (omega (arith, ltb-true w k h))) (λ h. lt-ltb w k (omega (arith, ltb-true w (suc k) h))))

  pub ready-is : (w : ℕ) → is_in (ready j made) w ≡ ltb w (workers j) && eqb (refusal j made w) 0
  unfolding ready
  ready-is w = ready-below w (workers j)

  -- who may move is in it
  pub ready_in : (w : ℕ) → Able j made w → is_in (ready j made) w ≡ true
  ready_in w a = ready-is w ∙ rw (lt-ltb w (workers j) a.in_plan, eq-eqb (refusal j made w) 0 (able-refusal j made w a)) refl
