-- Demand 3 holds.
use mathlib.Core.Path.{◌≡◌, refl, sym, ap, ◌∙◌}
use mathlib.Core.Bool.{true, false}
use mathlib.Core.List.{List, [], ◌∷◌}
use Prim.Native.Nat.{ℕ, ◌<◌}
use native.Mathlib.Omega.{arith}
use lib.ListN.{length, get_or, length-map}
use lib.IntN.{ℤ, pos}
use borrow.Author.Tests.{le-leb}
use Rattle.base.specs.Lists.{range}
use Rattle.base.specs.Replies.{in_turn}
use Rattle.base.proofs.Lists.{length-range, map-range-zero}
use Rattle.base.proofs.Sums.{sum-below-same, sum-below_equal}
use Rattle.matrix.specs.Product.{force_at, product}
use Rattle.run.specs.Job.{Job, Accepted, row_at, workers}
use Rattle.run.specs.Updates.{count, accesses}
use Rattle.run.specs.Machine.{one_more, steps, ready, bits, over, original}
use Rattle.base.specs.Lists.{position_of}
use Rattle.run.specs.State.{fresh}
use Rattle.run.specs.Calls.{place_of, picked_of, ready_of, forces_of, state_check, answer_of, answer}
use Rattle.run.specs.Answers.{Call, picks, ready_set, picked, is_ready}
use Rattle.run.specs.Model.{no_counts, taken_picks, model_answers, model_counts}
use Rattle.run.specs.OneAccess.{Walk}
use Rattle.run.specs.EveryRun.{taken_in, run_state, run_answers, finished_run, run_forces, EveryRun, EqualForces, Demand3}
use Rattle.run.proofs.Invariant.{Inv, inv_fresh}
use Rattle.run.proofs.Able.{able-refusal}
use Rattle.run.proofs.Schedule.{steps_on}
use Rattle.run.proofs.OneAccess.{one_way}
use Rattle.run.proofs.Taken.{taken}
use Rattle.run.proofs.Book.{finished-is}
use Rattle.run.proofs.Finished.{over-made, made-over, forces-product}
use Rattle.run.proofs.AsModel.{AllKept, calls_model, fine}
use Rattle.run.proofs.Progress.{some-able, progress}
use Rattle.run.proofs.Tally.{made_in, taken-all}
use Rattle.run.proofs.Accepted.{tree_of, facts, row_below, position_row, accesses-of, plain}

-- ---- one run: an accepted job and a list of calls

module _ (j : Job) (ok : Accepted j) (cs : List Call) where
  kept : AllKept j (facts j ok) (fresh j.matrix.n) cs
  kept = calls_model j (facts j ok) (fresh j.matrix.n) (inv_fresh j) cs

  -- the state after the calls has the invariant
  pub inv : Inv j (run_state j cs)
  unfolding run_state
  inv = kept.inv

  -- its counts are the model's
  pub counted : (run_state j cs).made ≡ model_counts j no_counts cs
  unfolding run_state fresh no_counts
  counted = kept.made

  -- finished by the model's counts is finished by the machine's
  pub finished-over : finished_run j cs ≡ over j (run_state j cs).made
  unfolding finished_run
  finished-over = rw (← counted) (finished-is j (run_state j cs).made inv.bounded)

  -- .. and so are the answers
  pub answered : run_answers j cs ≡ model_answers j no_counts cs
  unfolding run_answers fresh no_counts
  answered = kept.same

  -- one access for each step that the model takes
  walked : Walk j (fresh j.matrix.n) (taken_picks j no_counts cs) (run_state j cs)
  unfolding run_state fresh no_counts
  walked = kept.walked

  -- the counts together are the steps taken
  pub taken_is : made_in j (facts j ok).few (run_state j cs).made ≡ taken_in (run_answers j cs)
  taken_is = rw (counted, answered) (taken-all j (facts j ok).few cs)

  whole : finished_run j cs ≡ true → run_forces j cs ≡ product j.matrix j.displacements
  unfolding run_forces
  whole o = forces-product j (facts j ok) (run_state j cs) inv (sym finished-over ∙ o)

  in_place : (p : ℕ) → p < j.matrix.n → get_or (run_forces j cs) (row_at j p) (pos 0) ≡ get_or (run_state j cs).sums p (pos 0)
  unfolding run_forces original
  in_place p l =
      map-range-zero (λ i. get_or (run_state j cs).sums (position_of j.plan.order i) (pos 0)) j.matrix.n (row_at j p) (pos 0) (row_below j ok p l)
      ∙ ap (λ (q : ℕ). get_or (run_state j cs).sums q (pos 0)) (position_row j ok p l)

  can_move : finished_run j cs ≡ false → (w : ℕ) × (w < workers j) × (answer j (run_state j cs) (picks (w ∷ [])) ≡ picked 1 0 0)
  unfolding answer state_check in_turn answer_of picked_of place_of steps one_more
  can_move o =
      let s = run_state j cs in
      let (w, a) = some-able j s.made (tree_of j ok) (sym finished-over ∙ o) in
      let t = taken j (facts j ok) s inv w (able-refusal j s.made w a) in
      (w, a.in_plan, rw (fine j (facts j ok) s inv, steps_on j s w [] t.state t.is) refl)

  -- the answer to a ready-set call
  pub ready-is : answer j (run_state j cs) ready_set ≡ is_ready (bits (ready j (run_state j cs).made)) (length (ready j (run_state j cs).made))
  unfolding answer state_check in_turn answer_of ready_of
  ready-is = rw (fine j (facts j ok) (run_state j cs) inv) refl

  one-run : EveryRun j cs
  unfolding answer state_check in_turn answer_of forces_of product run_forces original
  one-run = record {
    answered = answered;
    counted = counted;
    walked = walked;
    enough = λ o. sym taken_is ∙ sum-below-same (count made) (accesses j) (workers j) (λ w l. omega (arith, over-made j made (sym finished-over ∙ o) w l, inv.bounded w)) ∙ accesses-of j ok;
    only_then = λ e. finished-over ∙ made-over j made (λ w l. omega (arith, sum-below_equal (count made) (accesses j) (workers j) inv.bounded (taken_is ∙ e ∙ sym (accesses-of j ok)) w l));
    long = length-map (range 0 j.matrix.n) (λ i. get_or (run_state j cs).sums (position_of j.plan.order i) (pos 0)) ∙ length-range 0 j.matrix.n;
    in_place = in_place;
    forced = λ o room l. rw (fine j (facts j ok) (run_state j cs) inv, sym finished-over ∙ o, le-leb j.matrix.n room l) refl;
    entries = λ o i l. ap (λ (zs : List ℤ). get_or zs i (pos 0)) (whole o) ∙ map-range-zero (force_at j.matrix j.displacements) j.matrix.n i (pos 0) l;
    whole = whole;
    can_move = can_move;
    ready-set = λ o. (bits (ready j made), length (ready j made), ready-is, progress j made (tree_of j ok) (sym finished-over ∙ o));
  }
    where
      made : List ℕ
      made = (run_state j cs).made

-- ---- two runs

equal_forces : (j k : Job) → Accepted j → Accepted k → (cs ds : List Call) → j.matrix.n ≡ k.matrix.n → finished_run j cs ≡ true → finished_run k ds ≡ true → EqualForces j k cs ds
equal_forces j k a b cs ds e o p = record {
  products = λ h. sym (whole j a cs o) ∙ h ∙ whole k b ds p;
  lists = λ h. whole j a cs o ∙ h ∙ sym (whole k b ds p);
}

-- every list of calls on every accepted job
pub every_run : Demand3
every_run = record { plain = plain; every_run = one-run; one_way = one_way; equal_forces = equal_forces }
