-- Request Q-9 holds.
use mathlib.Core.Path.{◌≡◌, refl, sym, ap, ◌∙◌, subst}
use mathlib.Core.Bool.{Bool, true, false}
use mathlib.Core.List.{List, [], ◌∷◌}
use Prim.Native.Nat.{ℕ, ◌+◌, ◌*◌, ◌<◌}
use native.Mathlib.Omega.{arith}
use lib.IntN.{ℤ}
use lib.ListN.{length}
use Rattle.matrix.specs.Matrix.{are_displacements}
use Rattle.plan.specs.Sound.{max_workers}
use Rattle.run.specs.Job.{Job, Accepted, workers}
use Rattle.run.specs.State.{State}
use Rattle.run.specs.Machine.{bits, over}
use Rattle.run.specs.Answers.{picks, force_list, forces}
use Rattle.run.specs.Calls.{picked_of, place_of, answer}
use Rattle.run.specs.Schedule.{pass, one_taken, skips_none}
use Rattle.run.specs.Model.{is_finished}
use Rattle.run.specs.EveryRun.{taken_in, taken_of, run_answers, finished_run, EveryRun}
use Rattle.run.proofs.Invariant.{Inv}
use Rattle.run.proofs.Accepted.{facts}
use Rattle.run.proofs.Passes.{pass_on}
use Rattle.run.proofs.Book as book
use Rattle.run.proofs.EveryRun.{inv, counted, every_run}
use Rattle.run.proofs.Consequences.{over_none}
use Rattle.crews.specs.Crews.{Crew, crew0, crew1, other, crew_number, Two, own_of, put_for, Roof, job_for, in_row, crew_refusal, for_both, turn, crew_ready}
use Rattle.crews.specs.Calls.{BothCall, ready_sets, BothAnswer, one, sets, ready_for, ready_both, denied_both, answer_both}
use Rattle.crews.specs.TwoCrews.{AcceptedRoof, both_fresh, both_state, both_answers, finished_for, taken_for, none_ready, Takes, OwnRun, BothRuns, bring, Unmoved, TwoCrews}
use Rattle.crews.proofs.Rows.{begun}
use Rattle.crews.proofs.InOrder.{named, in_order}
use Rattle.crews.proofs.Reached.{reached, answered, walked}
use Rattle.crews.proofs.Kept.{put_each, fresh-both, step-taken, both-fine, all_known}
use Rattle.crews.proofs.Together.{moving, inside-moves, not-refused, in_ready}
use Rattle.crews.proofs.Alike.{Like, picked-alike, sets-alike, alike, same_taken}
use Rattle.crews.proofs.LentBoth.{lent_both}

-- how many workers a ready set of crew c has, in an answer
size_of : Crew → BothAnswer → ℕ
size_of c (one a) = 0
size_of c (sets t) = (own_of t c).count

module _ (r : Roof) (ok : AcceptedRoof r) (cs : List BothCall) where
  abbrev s : Two State
  s = both_state r cs

  module _ (c : Crew) where
    abbrev j : Job
    j = job_for r c

    -- the crew's own run
    run : EveryRun j (picks (taken_for r cs c) ∷ [])
    run = every_run.every_run j (ok c) (picks (taken_for r cs c) ∷ [])

    finished-is : finished_for r cs c ≡ finished_run j (picks (taken_for r cs c) ∷ [])
    unfolding finished_for finished_run
    finished-is = ap (λ (t : State). is_finished j t.made) (reached r c (ok c) cs) ∙ ap (is_finished j) (counted j (ok c) (picks (taken_for r cs c) ∷ []))

    taken_is : taken_in (run_answers j (picks (taken_for r cs c) ∷ [])) ≡ length (taken_for r cs c)
    unfolding taken_in taken_of
    taken_is = ap taken_in (answered r c (ok c) cs) ∙ (let e : length (taken_for r cs c) + 0 ≡ length (taken_for r cs c) = omega arith in e)

    own-run : OwnRun r cs c
    unfolding answer_both
    own-run = record {
      reached = reached r c (ok c) cs;
      answered = answered r c (ok c) cs;
      demand3 = run;
      walked = walked r c (ok c) cs;
      enough = λ o. sym taken_is ∙ run.enough (sym finished-is ∙ o);
      only_then = λ e. finished-is ∙ run.only_then (taken_is ∙ e);
      forced = λ o room l.
          let f : finished_run j (picks (taken_for r cs c) ∷ []) ≡ true = sym finished-is ∙ o in
          ap (λ (t : State). one (answer j t (force_list room))) (reached r c (ok c) cs) ∙ ap one (run.forced f room l ∙ ap forces (run.whole f));
    }

    -- the crew's state has the invariant
    kept : Inv j (own_of s c)
    kept = subst (Inv j) (sym (reached r c (ok c) cs)) (inv j (ok c) (picks (taken_for r cs c) ∷ []))

  -- finished by its counts, or not
  over-is : (c : Crew) → over (job_for r c) (own_of s c).made ≡ finished_for r cs c
  unfolding finished_for
  over-is c = sym (book.finished-is (job_for r c) (own_of s c).made (kept c).bounded)

  -- a pick that the counts do not refuse is taken
  takes : (c : Crew) (w : ℕ) → w < workers (job_for r c) → crew_refusal r s c w ≡ 0 → Takes r s c w
  unfolding answer_both pass one_taken for_both picked_of place_of
  takes c w l e =
      let t = step-taken r ok s kept c w e in
      both-fine r ok s kept denied_both _
      ∙ rw (pass_on skips_none (turn r) s (max_workers * crew_number c + w) [] (put_for s c t.state) (named r s c w (omega (arith, (facts (job_for r c) (ok c)).few)) ∙ ap (for_both s c) t.is)) refl

  can_move : (c : Crew) → finished_for r cs c ≡ false → (d : Crew) × (w : ℕ) × (w < workers (job_for r d)) × Takes r s d w
  can_move c o = let m = moving r ok cs c (over-is c ∙ o) in (m.crew, m.worker, m.able.in_plan, takes m.crew m.worker m.able.in_plan (not-refused r ok cs m))

  goes_on : (c : Crew) (w : ℕ) → w < workers (job_for r c) → in_row (job_for r c) (own_of s c).made w ≡ true → Takes r s c w
  goes_on c w l h = takes c w l (inside-moves r ok cs c w l h)

  ready-are : answer_both r s ready_sets ≡ ready_both r s
  unfolding answer_both
  ready-are = both-fine r ok s kept denied_both (ready_both r s)

  empty_finished : answer_both r s ready_sets ≡ none_ready → (c : Crew) → finished_for r cs c ≡ true
  unfolding ready_both ready_for size_of
  empty_finished e c = go (finished_for r cs c) refl
    where
      none : (d : Crew) → length (crew_ready r s d) ≡ 0
      none crew0 = ap (size_of crew0) (sym ready-are ∙ e)
      none crew1 = ap (size_of crew1) (sym ready-are ∙ e)

      go : (b : Bool) → finished_for r cs c ≡ b → finished_for r cs c ≡ true
      go true o = o
      go false o = let m = moving r ok cs c (over-is c ∙ o) in absurd (omega (arith, in_ready r ok cs m, none m.crew))

  finished_empty : ((c : Crew) → finished_for r cs c ≡ true) → answer_both r s ready_sets ≡ none_ready
  unfolding ready_both
  finished_empty o = ready-are ∙ rw (none crew0, none crew1) refl
    where
      none : (c : Crew) → ready_for r s c ≡ record { bits = 0; count = 0 }
      none c = unfold ready_for crew_ready bits in (rw (over_none (job_for r c) (own_of s c).made (over-is c ∙ o c)) refl)

  both_runs : BothRuns r cs
  unfolding both_answers
  both_runs = record { each = own-run; numbers = all_known r ok (both_fresh r.matrix.n) (fresh-both r) cs; can_move = can_move; goes_on = goes_on; empty_finished = empty_finished; finished_empty = finished_empty }

-- ---- whatever the other crew brings

module _ (r : Roof) (ok : AcceptedRoof r) (c : Crew) (x : List ℤ) (fits : are_displacements r.matrix.n x ≡ true) (cs : List BothCall) where
  abbrev q : Roof
  q = bring r c x

  accepted : AcceptedRoof q
  accepted = put_each (λ (d : Crew) (y : List ℤ). Accepted (record { matrix = r.matrix; displacements = y; plan = r.plan })) r.displacements (other c) x
      (record { matrix = (ok c).matrix; displacements = fits; plan = (ok c).plan }) ok

  own-job : (c : Crew) (x : List ℤ) → job_for r c ≡ job_for (bring r c x) c
  own-job crew0 x = refl
  own-job crew1 x = refl

  same : Like r.matrix r.plan r.displacements q.displacements (both_state r cs) (both_state q cs)
  same = alike r.matrix r.plan r.displacements q.displacements ok accepted cs

  left : own_of (both_state r cs) c ≡ own_of (both_state q cs) c
  left = reached r c (ok c) cs
      ∙ rw (same_taken r.matrix r.plan r.displacements q.displacements ok accepted cs c, own-job c x) refl
      ∙ sym (reached q c (accepted c) cs)

  unmoved : Unmoved r q c cs
  unfolding answer_both
  unmoved = record {
    picked = picked-alike r.matrix r.plan r.displacements q.displacements ok accepted (both_state r cs) (both_state q cs) same;
    ready = sets-alike r.matrix r.plan r.displacements q.displacements ok accepted (both_state r cs) (both_state q cs) same;
    forced = λ room. rw (left, own-job c x) refl;
    left = left;
  }

-- every list of calls for both on every accepted roof
pub two-crews : TwoCrews
two-crews = record { begun = begun; in_order = in_order; both_runs = both_runs; unmoved = unmoved; lent = lent_both }
