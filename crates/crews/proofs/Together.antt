-- Until both runs are finished some worker can move for one of them, and the ready sets are not both empty.
use mathlib.Core.Path.{◌≡◌, refl, ◌∙◌, subst}
use mathlib.Core.Logic.{◌⊎◌, inl, inr}
use mathlib.Core.Bool.{Bool, true, false, not}
use mathlib.Core.List.{List}
use Prim.Native.Nat.{ℕ, ◌≤◌, ◌<◌}
use native.Mathlib.Omega.{arith}
use lib.ListN.{length}
use Rattle.base.proofs.Booleans.{is_false}
use Rattle.base.proofs.Lists.{filter-of, in_pos}
use Rattle.run.specs.Job.{Job, workers}
use Rattle.run.specs.State.{State, fresh}
use Rattle.run.specs.Machine.{moved, ready, over}
use Rattle.plan.specs.Sound.{max_workers}
use Rattle.run.proofs.Able.{Able, able-refusal}
use Rattle.run.proofs.Invariant.{zero-count}
use Rattle.run.proofs.Onward.{onward-length}
use Rattle.run.proofs.ReadySet.{ready_in}
use Rattle.run.proofs.Forest.{WholePlan}
use Rattle.run.proofs.Progress.{some-able}
use Rattle.run.proofs.Accepted.{tree_of, facts}
use Rattle.crews.specs.Crews.{Crew, crew0, crew1, other, Two, own_of, put_for, Roof, job_for, in_row, is_away, unless_away, crew_refusal, crew_step, crew_ready}
use Rattle.crews.specs.Calls.{BothCall}
use Rattle.crews.specs.TwoCrews.{AcceptedRoof, both_fresh, both_state}
use Rattle.crews.proofs.Rows.{in_row-left, in_row-begun, RowFree, onward-free}
use Rattle.crews.proofs.Turns.{not_away, crew-moved, calls-keep}
use Rattle.crews.proofs.Alone.{alone}
use Rattle.crews.proofs.Kept.{put_each}

-- ---- two runs over one plan, of which one is not finished

-- worker w may move in the run j, and is not inside a row of the run k
abbrev Free : (j k : Job) (made new : List ℕ) → ℕ → Type 0
Free j k made new w = Able j made w × (in_row k new w ≡ false)

module _ (j k : Job) (made new : List ℕ) (same : workers j ≡ workers k) (W : WholePlan j) (free : RowFree k new) (alone : (w : ℕ) → in_row j made w ≡ true → in_row k new w ≡ true → ⊥) where
  -- who may move in the one is free for it, or is inside a row of the other, where it may move
  either-moves : over j made ≡ false → (w : ℕ) × (Free j k made new w ⊎ Free k j new made w)
  either-moves o = let (w, a) = some-able j made W o in (w, go w a (in_row k new w) refl)
    where
      go : (w : ℕ) → Able j made w → (b : Bool) → in_row k new w ≡ b → Free j k made new w ⊎ Free k j new made w
      go w a false e = inl (a, e)
      go w a true e = inr (record { in_plan = subst (λ (n : ℕ). w < n) same a.in_plan; left = in_row-left k new w e; going = free w e }, is_false (λ h. alone w h e))

-- ---- two crews

module _ (r : Roof) (ok : AcceptedRoof r) (cs : List BothCall) where
  abbrev s : Two State
  s = both_state r cs

  -- who is inside a row of a crew does not wait there: of every count that a step for a crew leads to
  abbrev NoneWaits : Crew → State → Type 0
  NoneWaits c t = (length t.made ≡ max_workers) × RowFree (job_for r c) t.made

  step-free : (s : Two State) (c : Crew) (w : ℕ) (t : State) → crew_step r s c w ≡ moved t → ((d : Crew) → NoneWaits d (own_of s d)) → (d : Crew) → NoneWaits d (own_of (put_for s c t) d)
  unfolding crew_refusal
  step-free s c w t h free =
      let m = crew-moved r s c w t h in
      let long = (free c).0 in
      put_each NoneWaits s c t
      (rw m.made (onward-length (own_of s c).made w ∙ long, onward-free (job_for r c) (facts (job_for r c) (ok c)).few (own_of s c).made long (free c).1 w (not_away _ (is_away r s c w) m.free).0))
      free

  free : (c : Crew) → RowFree (job_for r c) (own_of s c).made
  unfolding both_state
  free c = (calls-keep r (λ t. (d : Crew) → NoneWaits d (own_of t d)) step-free (both_fresh r.matrix.n) cs at_first c).1
    where
      begins : (d : Crew) → NoneWaits d (fresh r.matrix.n)
      begins d = unfold fresh in (refl, λ w h. absurd (omega (arith, in_row-begun (job_for r d) (fresh r.matrix.n).made w h, zero-count w)))

      at_first : (d : Crew) → NoneWaits d (own_of (both_fresh r.matrix.n) d)
      at_first crew0 = unfold both_fresh in begins crew0
      at_first crew1 = unfold both_fresh in begins crew1

  -- a worker that can move for crew c
  pub record Moves : Type 0 where
    pub crew : Crew
    pub worker : ℕ
    pub able : Able (job_for r crew) (own_of s crew).made worker
    pub here : is_away r s crew worker ≡ false

  -- .. or the other
  found : (c : Crew) (w : ℕ) → Free (job_for r c) (job_for r (other c)) (own_of s c).made (own_of s (other c)).made w ⊎ Free (job_for r (other c)) (job_for r c) (own_of s (other c)).made (own_of s c).made w → Moves
  unfolding is_away
  found c w (inl (a, h)) = record { crew = c; worker = w; able = a; here = h }
  found crew0 w (inr (a, h)) = record { crew = crew1; worker = w; able = a; here = h }
  found crew1 w (inr (a, h)) = record { crew = crew0; worker = w; able = a; here = h }

  one-row : (c : Crew) (w : ℕ) → in_row (job_for r c) (own_of s c).made w ≡ true → in_row (job_for r (other c)) (own_of s (other c)).made w ≡ true → ⊥
  one-row crew0 w x y = alone r cs w x y
  one-row crew1 w x y = alone r cs w y x

  -- until both are finished there is one
  pub moving : (c : Crew) → over (job_for r c) (own_of s c).made ≡ false → Moves
  unfolding workers
  moving c o =
      let (w, m) = either-moves (job_for r c) (job_for r (other c)) (own_of s c).made (own_of s (other c)).made refl (tree_of (job_for r c) (ok c)) (free (other c)) (one-row c) o in
      found c w m

  -- who is inside a row of a crew can move for it
  pub inside-moves : (c : Crew) (w : ℕ) → w < workers (job_for r c) → in_row (job_for r c) (own_of s c).made w ≡ true → crew_refusal r s c w ≡ 0
  unfolding crew_refusal unless_away is_away
  inside-moves c w l h =
      rw (able-refusal (job_for r c) (own_of s c).made w (record { in_plan = l; left = in_row-left (job_for r c) (own_of s c).made w h; going = free c w h }), is_false (one-row c w h)) refl

  module _ (m : Moves) where
    -- its step is not refused
    pub not-refused : crew_refusal r s m.crew m.worker ≡ 0
    unfolding crew_refusal unless_away
    not-refused = rw (able-refusal (job_for r m.crew) (own_of s m.crew).made m.worker m.able, m.here) refl

    -- .. and it is in its crew's ready set
    pub in_ready : 1 ≤ length (crew_ready r s m.crew)
    unfolding crew_ready
    in_ready =
        in_pos (crew_ready r s m.crew) m.worker
        (filter-of (λ w. not (is_away r s m.crew w)) (ready (job_for r m.crew) (own_of s m.crew).made) m.worker (ready_in (job_for r m.crew) (own_of s m.crew).made m.worker m.able) (rw m.here refl))
