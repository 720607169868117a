-- The answers of all calls are the model's: 11 is never met.
use mathlib.Core.Path.{◌≡◌, refl, ap, ◌∙◌}
use mathlib.Core.Bool.{Bool, true, false, cond}
use mathlib.Core.List.{List, [], ◌∷◌, ◌++◌}
use Prim.Native.Nat.{ℕ, zero, suc, ◌≤◌}
use native.Mathlib.Omega.{arith}
use lib.ListN.{length}
use lib.Dec.{eqb, leb}
use borrow.Author.Tests.{eq-eqb, ne_eqb, le-leb}
use Rattle.base.specs.Refusals as why
use Rattle.base.specs.Replies.{in_turn}
use Rattle.matrix.specs.Product.{product}
use Rattle.plan.specs.Sound.{max_workers}
use Rattle.run.specs.Job.{Job}
use Rattle.run.specs.Updates.{count, accesses}
use Rattle.run.specs.Machine.{steps, over, original, counts_fine, is_state}
use Rattle.run.specs.State.{State}
use Rattle.run.specs.Calls.{place_of, picked_of, passed_of, ready_of, forces_of, state_check, answer_of, after_of, answer, after}
use Rattle.run.specs.Answers.{Call, picks, ready_set, force_list, preview, rounds, Answer, picked, forces, denied, shown}
use Rattle.run.specs.Sequence.{answers_from, state_after}
use Rattle.run.specs.Model.{note, note_round, noted_answer, able_answer, model_answer, model_after, model_answers, model_counts, taken_now, taken_picks}
use Rattle.run.specs.OneAccess.{Walk, stay, and_then}
use Rattle.run.proofs.Facts.{Facts}
use Rattle.run.proofs.Invariant.{Inv}
use Rattle.run.proofs.Book.{able-bits, able-count, finished-is}
use Rattle.run.proofs.Taken.{steps_model, walks}
use Rattle.run.proofs.Rounds.{round_model}
use Rattle.run.proofs.Finished.{forces-product}

-- one walk after another
walk_on : (j : Job) {s t e : State} {vs ws : List ℕ} → Walk j s vs t → Walk j t ws e → Walk j s (vs ++ ws) e
walk_on j stay y = y
walk_on j (and_then a x) y = and_then a (walk_on j x y)

module _ (j : Job) (F : Facts j) where
  -- the answer to a list of picks
  picked_model : (taken number past : ℕ) → picked taken number (place_of number past) ≡ picked taken number (cond (eqb number 0) 0 past)
  unfolding place_of
  picked_model taken zero past = refl
  picked_model taken (suc k) past = rw (ne_eqb (suc k) 0 (λ e. omega arith)) refl

  -- .. to a ready-set call
  ready_model : (s : State) → Inv j s → ready_of j s.made ≡ model_answer j s.made ready_set
  unfolding ready_of model_answer
  ready_model s I = rw (able-bits j s.made I.bounded, able-count j s.made I.bounded) refl

  -- .. to a force-list call
  forces_model : (s : State) → Inv j s → (room : ℕ)
      → forces_of (over j s.made) (leb j.matrix.n room) j.matrix.n (original j s.sums) ≡ model_answer j s.made (force_list room)
  unfolding model_answer forces_of
  forces_model s I room = rw (finished-is j s.made I.bounded) (go (over j s.made) refl (leb j.matrix.n room))
    where
      go : (b : Bool) → over j s.made ≡ b → (c : Bool)
          → forces_of b c j.matrix.n (original j s.sums) ≡ cond b (cond c (forces (product j.matrix j.displacements)) (denied why.too_short j.matrix.n)) (denied why.too_early 0)
      go true e true = rw (forces-product j F s I e) refl
      go true e false = refl
      go false e c = refl

  -- .. to a preview: from the counts that its picks lead to
  preview_model : (s : State) → Inv j s → (ws : List ℕ) → answer_of j s (preview ws) ≡ model_answer j s.made (preview ws)
  unfolding answer_of picked_of model_answer
  preview_model s I ws =
      let a = steps_model j F s I ws in
      ap (λ (b : Answer). shown b (ready_of j (steps j s ws).state.made)) (rw (a.count, a.number) (picked_model (note j s.made ws).taken (note j s.made ws).number (note j s.made ws).taken))
      ∙ ap (shown (noted_answer (note j s.made ws))) (ready_model (steps j s ws).state a.inv ∙ ap (able_answer j) a.made)

  -- one call
  pub record Kept (s : State) (c : Call) : Type 0 where
    pub inv : Inv j (after j s c)
    pub made : (after j s c).made ≡ model_after j s.made c
    pub same : answer j s c ≡ model_answer j s.made c
    pub walked : Walk j s (taken_now j s.made c) (after j s c)

  -- no count passes its worker's accesses
  counts-fine : (made : List ℕ) → ((w : ℕ) → count made w ≤ accesses j w) → (k : ℕ) → counts_fine j made k ≡ true
  unfolding counts_fine
  counts-fine made h zero = refl
  counts-fine made h (suc k) = rw (le-leb (count made k) (accesses j k) (h k), counts-fine made h k) refl

  -- 11 is never met
  pub fine : (s : State) → Inv j s → is_state j s ≡ true
  unfolding is_state
  fine s I = rw (eq-eqb (length s.sums) j.matrix.n I.sums-length) (counts-fine s.made I.bounded max_workers)

  -- a call from a state with the invariant keeps it, and is answered as the model answers
  pub call_model : (s : State) → Inv j s → (c : Call) → Kept s c
  unfolding answer after state_check in_turn answer_of after_of picked_of passed_of model_answer model_after taken_now
  call_model s I (picks ws) = let a = steps_model j F s I ws in record { inv = rw (fine s I) a.inv; made = rw (fine s I) a.made; same = rw (fine s I, a.count, a.number) (picked_model (note j s.made ws).taken (note j s.made ws).number (note j s.made ws).taken); walked = rw (fine s I) (walks j F s I ws) }
  call_model s I ready_set = record { inv = rw (fine s I) I; made = rw (fine s I) refl; same = rw (fine s I) (ready_model s I); walked = rw (fine s I) stay }
  call_model s I (force_list room) = record { inv = rw (fine s I) I; made = rw (fine s I) refl; same = rw (fine s I) (forces_model s I room); walked = rw (fine s I) stay }
  call_model s I (preview ws) = record { inv = rw (fine s I) I; made = rw (fine s I) refl; same = rw (fine s I) (preview_model s I ws); walked = rw (fine s I) stay }
  call_model s I (rounds ws) =
      let a = round_model j F s I ws in
      let b = note_round j s.made ws in
      record { inv = rw (fine s I) a.inv; made = rw (fine s I) a.made; same = rw (fine s I, a.count, a.number, a.met) (picked_model b.taken b.number b.met); walked = rw (fine s I) a.walked }

  -- a list of calls
  pub record AllKept (s : State) (cs : List Call) : Type 0 where
    pub inv : Inv j (state_after (after j) s cs)
    pub made : (state_after (after j) s cs).made ≡ model_counts j s.made cs
    pub same : answers_from (answer j) (after j) s cs ≡ model_answers j s.made cs
    pub walked : Walk j s (taken_picks j s.made cs) (state_after (after j) s cs)

  -- .. and so all calls of a list
  pub calls_model : (s : State) → Inv j s → (cs : List Call) → AllKept s cs
  unfolding answers_from state_after model_answers model_counts taken_picks
  calls_model s I [] = record { inv = I; made = refl; same = refl; walked = stay }
  calls_model s I (c ∷ cs) =
      let k = call_model s I c in
      let r = calls_model (after j s c) k.inv cs in
      record {
        inv = r.inv;
        made = rw (← k.made) r.made;
        same = rw (← k.made, k.same) (ap (λ (l : List Answer). model_answer j s.made c ∷ l) r.same);
        walked = walk_on j k.walked (rw (← k.made) r.walked);
      }
