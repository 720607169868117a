-- The consequences of every_run hold.
use mathlib.Core.Path.{◌≡◌, refl, sym, ap, ◌∙◌, subst}
use mathlib.Core.Bool.{Bool, true, false, cond}
use mathlib.Core.List.{List, [], ◌∷◌, map}
use Prim.Native.Nat.{ℕ, zero, suc, ◌≤◌, ◌<◌}
use native.Mathlib.Omega.{arith}
use lib.ListN.{length}
use lib.Dec.{eqb, ltb, leb}
use lib.IntN.{ℤ}
use borrow.Author.Tests.{lt-ltb, le-leb}
use Rattle.base.specs.Lists.{all, is_in}
use Rattle.base.specs.Refusals as why
use Rattle.base.proofs.Sums.{sum-below-le}
use Rattle.matrix.specs.Product.{product}
use Rattle.run.specs.Job.{Job, Accepted, workers}
use Rattle.run.specs.Updates.{count, accesses, waits}
use Rattle.run.specs.Machine.{reason, refusal, ready_below, ready, bits, over}
use Rattle.run.specs.Calls.{answer}
use Rattle.run.specs.Answers.{Call, picks, ready_set, force_list, preview, rounds, is_ready, forces, denied, shown}
use Rattle.run.specs.Schedule.{pass, one_taken, one_skipped}
use Rattle.run.specs.Rounds.{skips}
use Rattle.run.specs.Model.{no_counts, added, ending, one_noted, note, note_one, note_round, is_finished, model_answer, model_after, model_answers}
use Rattle.run.specs.EveryRun.{run_state, finished_run}
use Rattle.run.specs.Consequences.{number_of, Consequence, Consequences}
use Rattle.run.proofs.Passes.{pass_on, pass_skip, pass_end}
use Rattle.run.proofs.Rounds.{noted_on, noted_end}
use Rattle.run.proofs.Schedule.{note_on, note_end}
use Rattle.run.proofs.Finished.{over-made}
use Rattle.run.proofs.Progress.{progress}
use Rattle.run.proofs.Accepted.{tree_of, accesses-of}
use Rattle.run.proofs.EveryRun.{inv, finished-over, answered, ready-is, taken_is}

-- ---- the model's numbers

-- the only numbers that the model's answers have
abbrev pub known : ℕ → Bool
known = is_in (0 ∷ why.too_short ∷ why.no_worker ∷ why.all_done ∷ why.must_wait ∷ why.too_early ∷ [])

known-ending : (j : Job) (made : List ℕ) (w : ℕ) → known (ending j made w) ≡ true
unfolding ending
known-ending j made w = go (ltb w (workers j)) (eqb (count made w) (accesses j w)) (waits j made w)
  where
    go : (a b c : Bool) → known (cond a (cond b why.all_done (cond c why.must_wait 0)) why.no_worker) ≡ true
    go false b c = refl
    go true true c = refl
    go true false true = refl
    go true false false = refl

known-note : (j : Job) (made ws : List ℕ) → known (note j made ws).number ≡ true
unfolding note one_noted
known-note j made [] = refl
known-note j made (w ∷ ws) = go (ending j made w) refl (known-note j (added made w) ws)
  where
    go : (k : ℕ) → ending j made w ≡ k → known (note j (added made w) ws).number ≡ true → known (note j made (w ∷ ws)).number ≡ true
    go zero e ih = rw (note_on j made w ws e) ih
    go (suc k) e ih = rw (note_end j made w ws k e) (subst (λ (y : ℕ). known y ≡ true) e (known-ending j made w))

known-round : (j : Job) (made ws : List ℕ) → known (note_round j made ws).number ≡ true
unfolding pass one_taken one_skipped
known-round j made [] = refl
known-round j made (w ∷ ws) = go (ending j made w) refl (λ m. known-round j m ws)
  where
    go : (k : ℕ) → ending j made w ≡ k → ((m : List ℕ) → known (note_round j m ws).number ≡ true) → known (note_round j made (w ∷ ws)).number ≡ true
    go zero e ih = rw (pass_on skips (note_one j) made w ws (added made w) (noted_on j made w e)) (ih (added made w))
    go (suc k) e ih = by (skips (suc k)) refl
      where
        by : (b : Bool) → skips (suc k) ≡ b → known (note_round j made (w ∷ ws)).number ≡ true
        by true h = rw (pass_skip skips (note_one j) made w ws (suc k) (noted_end j made w k e) h) (ih made)
        by false h = rw (pass_end skips (note_one j) made w ws (suc k) (noted_end j made w k e) h) (subst (λ (y : ℕ). known y ≡ true) e (known-ending j made w))

known-forces : (a b : Bool) (n : ℕ) (zs : List ℤ) → known (number_of (cond a (cond b (forces zs) (denied why.too_short n)) (denied why.too_early 0))) ≡ true
unfolding number_of
known-forces false b n zs = refl
known-forces true false n zs = refl
known-forces true true n zs = refl

pub known_call : (j : Job) (made : List ℕ) (c : Call) → known (number_of (model_answer j made c)) ≡ true
unfolding model_answer
known_call j made (picks ws) = unfold number_of in known-note j made ws
known_call j made ready_set = unfold number_of in refl
known_call j made (force_list room) = known-forces (is_finished j made) (leb j.matrix.n room) j.matrix.n (product j.matrix j.displacements)
known_call j made (preview ws) = unfold number_of shown in known-note j made ws
known_call j made (rounds ws) = unfold number_of in known-round j made ws

known-all : (j : Job) (made : List ℕ) (cs : List Call) → all known (map number_of (model_answers j made cs)) ≡ true
unfolding model_answers
known-all j made [] = refl
known-all j made (c ∷ cs) = rw (known_call j made c) (known-all j (model_after j made c) cs)

-- ---- the ready set of a finished run

none-ready : (j : Job) (made : List ℕ) (k : ℕ) → k ≤ workers j → ((w : ℕ) → w < workers j → accesses j w ≤ count made w) → ready_below j made k ≡ []
unfolding ready_below refusal reason
none-ready j made zero l h = refl
none-ready j made (suc k) l h = rw (lt-ltb k (workers j) (omega arith), le-leb (accesses j k) (count made k) (h k (omega arith))) (none-ready j made k (omega arith) h)

pub over_none : (j : Job) (made : List ℕ) → over j made ≡ true → ready j made ≡ []
unfolding ready
over_none j made o = none-ready j made (workers j) (omega arith) (over-made j made o)

module _ (j : Job) (ok : Accepted j) (cs : List Call) where
  abbrev made : List ℕ
  made = (run_state j cs).made

  empty_finished : answer j (run_state j cs) ready_set ≡ is_ready 0 0 → finished_run j cs ≡ true
  empty_finished e = finished-over j ok cs ∙ go (over j made) refl
    where
      none : length (ready j made) ≡ 0
      none = let same = sym (ready-is j ok cs) ∙ e in cc

      go : (b : Bool) → over j made ≡ b → over j made ≡ true
      go true o = o
      go false o = absurd (omega (arith, progress j made (tree_of j ok) o, none))

  finished_empty : finished_run j cs ≡ true → answer j (run_state j cs) ready_set ≡ is_ready 0 0
  unfolding bits
  finished_empty o = ready-is j ok cs ∙ ap (λ (ws : List ℕ). is_ready (bits ws) (length ws)) (over_none j made (sym (finished-over j ok cs) ∙ o))

  consequence : Consequence j cs
  consequence = record {
    numbers = rw (answered j ok cs) (known-all j no_counts cs);
    at_most = omega (arith, taken_is j ok cs, sum-below-le (count made) (accesses j) (workers j) (λ w l. (inv j ok cs).bounded w), accesses-of j ok);
    empty_finished = empty_finished;
    finished_empty = finished_empty;
  }

-- for every list of calls on every accepted job
pub consequences : Consequences
consequences = record { every = consequence }
