-- A run by the tables of a job is the run of the job.
use mathlib.Core.Path.{◌≡◌, refl, sym, ap, ◌∙◌, fun_ext}
use mathlib.Core.Bool.{Bool, true, false, ◌&&◌}
use mathlib.Core.List.{List, map}
use Prim.Native.Nat.{ℕ, zero, suc, ◌/◌, ◌%◌, ◌≤◌, ◌<◌}
use native.Mathlib.Omega.{arith}
use lib.Dec.{eqb, ltb, leb}
use lib.IntN.{ℤ, pos, ◌+ℤ◌}
use lib.ListN.{length, get_or}
use borrow.Author.Tests.{ltb-true, leb-false}
use Rattle.base.specs.Lists.{range, position_of}
use Rattle.base.specs.Integers.{fits64}
use Rattle.base.proofs.Lists.{map-range-same}
use Rattle.plan.specs.Sound.{max_workers}
use Rattle.run.specs.Job.{Job, Accepted, workers}
use Rattle.run.specs.Updates.{Update, count, updates, accesses, next, waits}
use Rattle.run.specs.Machine.{reason, refusal, Outcome, move, access, load, store, total, step_if, step, steps, ready, ready_below, bits, all_made, over, original, counts_fine, is_state}
use Rattle.run.specs.Schedule.{Passed, pass, skips_none}
use Rattle.run.specs.Rounds.{skips}
use Rattle.run.specs.State.{State}
use Rattle.run.specs.Answers.{Call, picks, ready_set, force_list, preview, rounds, is_ready, shown}
use Rattle.run.specs.Calls.{picked_of, passed_of, ready_of, forces_of, answer_of, after_of, state_check, answer, after}
use Rattle.run.proofs.Accepted.{facts}
use Rattle.run.proofs.Able.{able}
use Rattle.run.proofs.Rounds.{all_taken, no_skips}
use Rattle.prepared.specs.Gates.{gate}
use Rattle.prepared.specs.Tables.{Tables, Of, next_by, waits_by, refusal_by, step_by, pass_by, ready_below_by, ready_by, all_made_by, original_by, counts_fine_by, is_state_by, answer_of_by, after_of_by, state_check_by, answer_by, after_by}
use Rattle.prepared.specs.PreparedRuns.{TableRun, TableRuns}
use Rattle.prepared.proofs.Gates.{gate-waits, behind-same}

-- a move asks of an update only where its sum is and what it adds
move_same : (s : State) (w : ℕ) (u v : Update) → u.target ≡ v.target → u.amount ≡ v.amount → move s w u ≡ move s w v
unfolding move access load store total
move_same s w u v t a =
    ap (λ (z : ℤ). access even (fits64 (get_or s.held w (pos 0) +ℤ z)) s w u) a ∙ go even (fits64 (total s w v))
  where
    even : Bool
    even = eqb (count s.made w % 2) 0

    go : (e f : Bool) → access e f s w u ≡ access e f s w v
    go true f = rw t refl
    go false true = rw (t, a) refl
    go false false = refl

module _ (T : Tables) (j : Job) (ok : Accepted j) (of : Of T j) where
  few : workers j ≤ max_workers
  few = (facts j ok).few

  -- worker w of the plan has an update left
  module _ (made : List ℕ) (w : ℕ) (l : w < workers j) (m : count made w < accesses j w) where
    left : count made w / 2 < length (updates j w)
    unfolding accesses
    left = omega arith

    waits-same : waits_by T made w ≡ waits j made w
    unfolding waits_by next
    waits-same = behind-same made (T.need w (count made w / 2)) (gate j (next j made w).row) max_workers (λ v k. of.need_is w (count made w / 2) v l left k) ∙ sym (gate-waits j ok made w)

    moves-same : (s : State) → move s w (next_by T made w) ≡ move s w (next j made w)
    unfolding next_by next
    moves-same s = move_same s w (next_by T made w) (next j made w) (of.target_is w (count made w / 2) l left) (of.amount_is w (count made w / 2) l left)

  most-same : (w : ℕ) → w < workers j → T.most w ≡ accesses j w
  most-same w l = of.most_is w (omega (arith, few))

  refusal-same : (made : List ℕ) (w : ℕ) → refusal_by T made w ≡ refusal j made w
  unfolding refusal_by refusal reason
  refusal-same made w = ap (λ (c : ℕ). reason (ltb w c) (leb (T.most w) (count made w)) (waits_by T made w)) of.crew_is ∙ go (ltb w (workers j)) refl
    where
      go : (b : Bool) → ltb w (workers j) ≡ b → reason b (leb (T.most w) (count made w)) (waits_by T made w) ≡ reason b (leb (accesses j w) (count made w)) (waits j made w)
      go false e = refl
      go true e = ap (λ (m : ℕ). reason true (leb m (count made w)) (waits_by T made w)) (most-same w (ltb-true w (workers j) e)) ∙ (inner (leb (accesses j w) (count made w)) refl)
        where
          inner : (d : Bool) → leb (accesses j w) (count made w) ≡ d → reason true d (waits_by T made w) ≡ reason true d (waits j made w)
          inner true f = refl
          inner false f = ap (reason true false) (waits-same made w (ltb-true w (workers j) e) (leb-false (accesses j w) (count made w) f))

  step_same : (s : State) (w : ℕ) → step_by T s w ≡ step j s w
  unfolding step_by step step_if
  step_same s w = rw (refusal-same s.made w) (go (refusal j s.made w) refl)
    where
      go : (k : ℕ) → refusal j s.made w ≡ k → step_if k s w (next_by T s.made w) ≡ step_if k s w (next j s.made w)
      go zero e = let a = able j s.made w e in moves-same s.made w a.in_plan a.left s
      go (suc k) e = refl

  -- a schedule
  pass_same : (skipped : ℕ → Bool) (s : State) (ws : List ℕ) → pass_by T skipped s ws ≡ pass skipped (step j) s ws
  pass_same skipped s ws = ap (λ (one : State → ℕ → Outcome State). pass skipped one s ws) (fun_ext (λ t. fun_ext (λ w. step_same t w)))

  picks-same : (s : State) (ws : List ℕ) → pass_by T skips_none s ws ≡ all_taken (steps j s ws)
  picks-same s ws = pass_same skips_none s ws ∙ no_skips j s ws

  ready-same : (made : List ℕ) (k : ℕ) → ready_below_by T made k ≡ ready_below j made k
  unfolding ready_below_by ready_below
  ready-same made zero = refl
  ready-same made (suc w) = rw (refusal-same made w, ready-same made w) refl

  made-same : (made : List ℕ) (k : ℕ) → k ≤ workers j → all_made_by T made k ≡ all_made j made k
  unfolding all_made_by all_made
  made-same made zero h = refl
  made-same made (suc w) h = rw (most-same w (omega arith), made-same made w (omega arith)) refl

  counts_same : (made : List ℕ) (k : ℕ) → k ≤ max_workers → counts_fine_by T made k ≡ counts_fine j made k
  unfolding counts_fine_by counts_fine
  counts_same made zero h = refl
  counts_same made (suc w) h = rw (of.most_is w (omega arith), counts_same made w (omega arith)) refl

  original-same : (sums : List ℤ) → original_by T sums ≡ original j sums
  unfolding original_by original
  original-same sums =
      ap (λ (n : ℕ). map (λ i. get_or sums (T.place i) (pos 0)) (range 0 n)) of.rows_are
      ∙ (map-range-same (λ i. get_or sums (T.place i) (pos 0)) (λ i. get_or sums (position_of j.plan.order i) (pos 0)) 0 j.matrix.n
      (λ i a b. ap (λ (p : ℕ). get_or sums p (pos 0)) (of.place_is i (omega arith))))

  state-same : (s : State) → is_state_by T s ≡ is_state j s
  unfolding is_state_by is_state
  state-same s = ap (λ (n : ℕ). eqb (length s.sums) n && counts_fine_by T s.made max_workers) of.rows_are ∙ ap (λ (b : Bool). eqb (length s.sums) j.matrix.n && b) (counts_same s.made max_workers (omega arith))

  ready-answer : (made : List ℕ) → ready_by T made ≡ ready_of j made
  unfolding ready_of ready
  ready-answer made =
      ap (λ (c : ℕ). is_ready (bits (ready_below_by T made c)) (length (ready_below_by T made c))) of.crew_is
      ∙ ap (λ (ws : List ℕ). is_ready (bits ws) (length ws)) (ready-same made (workers j))

  answer-of-same : (s : State) (c : Call) → answer_of_by T s c ≡ answer_of j s c
  unfolding answer_of_by answer_of over passed_of picked_of
  answer-of-same s (picks ws) = ap passed_of (picks-same s ws)
  answer-of-same s ready_set = ready-answer s.made
  answer-of-same s (force_list room) =
      ap (λ (c : ℕ). forces_of (all_made_by T s.made c) (leb T.rows room) T.rows (original_by T s.sums)) of.crew_is
      ∙ ap (λ (b : Bool). forces_of b (leb T.rows room) T.rows (original_by T s.sums)) (made-same s.made (workers j) (omega arith))
      ∙ ap (λ (zs : List ℤ). forces_of (all_made j s.made (workers j)) (leb T.rows room) T.rows zs) (original-same s.sums)
      ∙ ap (λ (n : ℕ). forces_of (all_made j s.made (workers j)) (leb n room) n (original j s.sums)) of.rows_are
  answer-of-same s (preview ws) =
      ap (λ (r : Passed State). shown (passed_of r) (ready_by T r.state.made)) (picks-same s ws)
      ∙ ap (shown (passed_of (all_taken (steps j s ws)))) (ready-answer (steps j s ws).state.made)
  answer-of-same s (rounds ws) = ap passed_of (pass_same skips s ws)

  after-of-same : (s : State) (c : Call) → after_of_by T s c ≡ after_of j s c
  unfolding after_of_by after_of
  after-of-same s (picks ws) = ap (λ (r : Passed State). r.state) (picks-same s ws)
  after-of-same s ready_set = refl
  after-of-same s (force_list room) = refl
  after-of-same s (preview ws) = refl
  after-of-same s (rounds ws) = ap (λ (r : Passed State). r.state) (pass_same skips s ws)

  table-run : TableRun T j
  unfolding answer_by answer after_by after state_check_by state_check
  table-run = record {
    answered = λ s c. rw (state-same s, answer-of-same s c) refl;
    left = λ s c. rw (state-same s, after-of-same s c) refl;
  }

-- the theorem
pub table_runs : TableRuns
table_runs = record { every = table-run }
