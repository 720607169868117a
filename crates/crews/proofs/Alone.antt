-- No worker is inside a row of both crews.
use mathlib.Core.Path.{◌≡◌, sym, ap, ◌∙◌, subst}
use mathlib.Core.Logic.{◌⊎◌, inl, inr, ◌≢◌}
use mathlib.Core.Bool.{true}
use mathlib.Core.List.{List}
use Prim.Native.Nat.{ℕ}
use native.Mathlib.Omega.{arith}
use Rattle.base.proofs.Booleans.{clash, same_or}
use Rattle.run.specs.Updates.{count}
use Rattle.run.specs.State.{State, fresh}
use Rattle.run.specs.Machine.{moved}
use Rattle.run.proofs.Invariant.{zero-count}
use Rattle.run.proofs.Onward.{onward-other}
use Rattle.crews.specs.Crews.{Crew, crew0, crew1, Two, own_of, put_for, Roof, job_for, in_row, is_away, crew_step}
use Rattle.crews.specs.Calls.{BothCall}
use Rattle.crews.specs.TwoCrews.{both_fresh, both_state}
use Rattle.crews.proofs.Rows.{in_row-same, in_row-begun}
use Rattle.crews.proofs.Turns.{crew-moved, calls-keep}

module _ (r : Roof) where
  -- worker w is inside a row of crew c
  abbrev Inside : Two State → Crew → ℕ → Type 0
  Inside s c w = in_row (job_for r c) (own_of s c).made w ≡ true

  abbrev pub Alone : Two State → Type 0
  Alone s = (w : ℕ) → Inside s crew0 w → Inside s crew1 w → ⊥

  -- a step of worker v for a crew leaves the others as they were
  was : (s : Two State) (c : Crew) (v : ℕ) (t : State) → crew_step r s c v ≡ moved t → (w : ℕ) → w ≢ v → in_row (job_for r c) t.made w ≡ true → Inside s c w
  was s c v t h w d x =
      in_row-same (job_for r c) (own_of s c).made t.made w (sym (ap (λ (l : List ℕ). count l w) (crew-moved r s c v t h).made ∙ onward-other (own_of s c).made v w d)) ∙ x

  -- .. and v is not inside the other's row
  step-alone : (s : Two State) (c : Crew) (v : ℕ) (t : State) → crew_step r s c v ≡ moved t → Alone s → Alone (put_for s c t)
  unfolding is_away
  step-alone s crew0 v t h alone w x y = go (same_or w v)
    where
      go : (w ≡ v) ⊎ (w ≢ v) → ⊥
      go (inl q) = clash (subst (Inside s crew1) q y) (crew-moved r s crew0 v t h).here
      go (inr d) = alone w (was s crew0 v t h w d x) y
  step-alone s crew1 v t h alone w x y = go (same_or w v)
    where
      go : (w ≡ v) ⊎ (w ≢ v) → ⊥
      go (inl q) = clash (subst (Inside s crew0) q x) (crew-moved r s crew1 v t h).here
      go (inr d) = alone w x (was s crew1 v t h w d y)

  pub alone : (cs : List BothCall) → Alone (both_state r cs)
  unfolding both_state both_fresh fresh
  alone cs = calls-keep r Alone step-alone (both_fresh r.matrix.n) cs (λ w x y. absurd (omega (arith, in_row-begun (job_for r crew0) (both_fresh r.matrix.n).of0.made w x, zero-count w)))
