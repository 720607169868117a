-- A preview in bytes is the picks on a copy of them, and a look there.
use mathlib.Core.Path.{◌≡◌, refl, sym, ap, ◌∙◌, subst}
use mathlib.Core.Logic.{◌⊎◌, inl, inr, ◌≢◌, ⊎_elim}
use mathlib.Core.Bool.{Bool, true, false, ◌&&◌, cond}
use mathlib.Core.List.{List, [], ◌∷◌, map}
use Prim.Native.Nat.{ℕ, zero, suc, ◌*◌, ◌-◌, ◌/◌, ◌^◌, ◌<◌, ◌≤◌}
use native.Mathlib.Omega.{arith}
use lib.Dec.{eqb, ltb, leb}
use lib.IntN.{ℤ, pos, negsuc}
use lib.ListN.{length, take, drop, length-set, length-drop}
use lib.Seq.{length-take-le}
use borrow.Author.Tests.{eqb-true, eq-eqb, leb-true, lt-ltb, ltb-true, ltb-false}
use Rattle.base.specs.Integers.{fits64}
use Rattle.base.specs.Lists.{all}
use Rattle.base.specs.Refusals as why
use Rattle.base.specs.Replies.{Check, in_turn}
use Rattle.base.proofs.Booleans.{and_left, and_right, same_or, clash}
use Rattle.base.proofs.Each.{Each}
use Rattle.matrix.specs.Matrix.{Matrix}
use Rattle.plan.specs.Sound.{max_workers}
use Rattle.run.specs.Job.{Job, job_of, Accepted}
use Rattle.run.specs.Updates.{count, accesses}
use Rattle.run.specs.Machine.{Outcome, moved, halted, onward, load, store, step, one_more, steps, counts_fine, is_state}
use Rattle.run.specs.State.{State}
use Rattle.run.specs.Calls.{picked_of, answer_of, after_of, state_check, answer, after, job_checks, answer_lent, after_lent}
use Rattle.run.specs.Answers.{picks, ready_set, preview, Answer, denied, shown}
use Rattle.run.specs.LentRuns.{passed}
use Rattle.run.proofs.Accepted.{accesses-small}
use Rattle.run.proofs.Fits.{Fit, Fits, get-each, after-fits}
use Rattle.run.proofs.LentRuns.{lent_runs}
use Rattle.run.proofs.OnCopy.{on_copy}
use Rattle.run.proofs.Schedule.{steps_on, steps_end, step-moved}
use Rattle.run.proofs.Stays.{steps-stay}
use Rattle.words.specs.LittleEndian.{number, to_signed, signed_number, whole_blocks, signed_bytes, stored}
use Rattle.words.proofs.Blocks.{length_decoded}
use Rattle.answers.specs.Runs.{state_bytes, count_bytes, Bytes, state_in, answer_in, bytes_in, left_by}
use Rattle.answers.proofs.RunCalls.{always_refused}
use Rattle.meaning.specs.ByteRuns.{bytes_moved, bytes_called, byte_answer, state_left, byte_after, BytePreviews}
use Rattle.meaning.proofs.StateBack.{Sized, state-left}

-- a refusal is shown as it is
shown-denied : {a : Answer} {q p : ℕ} → a ≡ denied q p → (there look : Answer) → shown a there ≡ shown a look
unfolding shown
shown-denied e there look = rw e refl

-- checks that do not all hold refuse
some_refuse : (cs : List Check) → all (λ c. c.holds) cs ≡ false → (a : Answer) → (q : ℕ) × (p : ℕ) × (in_turn denied cs a ≡ denied q p)
unfolding in_turn
some_refuse [] h a = absurd (clash refl h)
some_refuse (c ∷ cs) h a = go c.holds h (λ e. some_refuse cs e a)
  where
    go : (b : Bool) → b && all (λ c. c.holds) cs ≡ false → (all (λ c. c.holds) cs ≡ false → (q : ℕ) × (p : ℕ) × (in_turn denied cs a ≡ denied q p))
        → (q : ℕ) × (p : ℕ) × (cond b (in_turn denied cs a) (denied c.number c.place) ≡ denied q p)
    go true e ih = ih e
    go false e ih = (c.number, c.place, refl)

-- ---- the numbers of any bytes have 64 bits

number_fits : (v : ℕ) → Fit (to_signed 8 v)
unfolding to_signed fits64
number_fits v = go (ltb (2 * v) (256 ^ 8)) refl
  where
    go : (b : Bool) → ltb (2 * v) (256 ^ 8) ≡ b → fits64 (cond b (pos v) (negsuc (256 ^ 8 - suc v))) ≡ true
    go true e = lt-ltb v (2 ^ 63) (omega (arith, ltb-true (2 * v) (256 ^ 8) e))
    go false e = lt-ltb (256 ^ 8 - suc v) (2 ^ 63) (omega (arith, ltb-false (2 * v) (256 ^ 8) e))

blocks_fit : (bs : List (List ℕ)) → Each Fit (map (signed_number 8) bs)
blocks_fit [] = tt
blocks_fit (b ∷ bs) = (number_fits (number b), blocks_fit bs)

-- ---- the state after picks from any bytes

module _ (j : Job) where
  -- steps keep the numbers of counts and of held numbers
  steps-long : (s : State) (ws : List ℕ) → (length (steps j s ws).state.made ≡ length s.made) × (length (steps j s ws).state.held ≡ length s.held)
  unfolding steps one_more load store onward
  steps-long s [] = (refl, refl)
  steps-long s (w ∷ ws) = go (step j s w) refl (λ t. steps-long t ws)
    where
      one : (t : State) → step j s w ≡ moved t → (length t.made ≡ length s.made) × (length t.held ≡ length s.held)
      one t m = ⊎_elim (λ e. rw (← e) (length-set s.made w _, length-set s.held w _)) (λ e. rw (← e) (length-set s.made w _, refl)) (step-moved j s w t m).one

      go : (o : Outcome State) → step j s w ≡ o → ((t : State) → (length (steps j t ws).state.made ≡ length t.made) × (length (steps j t ws).state.held ≡ length t.held))
          → (length (steps j s (w ∷ ws)).state.made ≡ length s.made) × (length (steps j s (w ∷ ws)).state.held ≡ length s.held)
      go (moved t) m ih = rw (steps_on j s w ws t m) ((ih t).0 ∙ (one t m).0, (ih t).1 ∙ (one t m).1)
      go (halted k) m ih = rw (steps_end j s w ws k m) (refl, refl)

  -- counts that are within the accesses
  fine-below : (made : List ℕ) (k : ℕ) → counts_fine j made k ≡ true → (i : ℕ) → i < k → count made i ≤ accesses j i
  unfolding counts_fine
  fine-below made zero e i l = absurd (omega arith)
  fine-below made (suc k) e i l = go (same_or i k) (fine-below made k (and_right (leb (count made k) (accesses j k)) (counts_fine j made k) e) i)
    where
      go : (i ≡ k) ⊎ (i ≢ k) → (i < k → count made i ≤ accesses j i) → count made i ≤ accesses j i
      go (inl q) ih = subst (λ (y : ℕ). count made y ≤ accesses j y) (sym q) (leb-true (count made k) (accesses j k) (and_left (leb (count made k) (accesses j k)) (counts_fine j made k) e))
      go (inr d) ih = ih (omega arith)

  module _ (ok : Accepted j) (s : State) (is : is_state j s ≡ true) where
    n-sums : length s.sums ≡ j.matrix.n
    unfolding is_state
    n-sums = eqb-true (length s.sums) j.matrix.n (and_left (eqb (length s.sums) j.matrix.n) (counts_fine j s.made max_workers) is)

    counts_fit : length s.made ≡ max_workers → Each (λ k. k < 2 ^ 32) s.made
    unfolding is_state
    counts_fit long =
        get-each (λ k. k < 2 ^ 32) s.made 0 (λ i l.
        omega (arith, accesses-small j ok i (omega arith), fine-below s.made max_workers (and_right (eqb (length s.sums) j.matrix.n) (counts_fine j s.made max_workers) is) i (omega arith)))

module _ (m : Matrix) (x : List ℤ) (order groups : List ℕ) (count : ℕ) (b : Bytes) (ws : List ℕ) where
  abbrev j : Job
  j = job_of m x order groups count

  abbrev s : State
  s = state_in b.state b.sums

  abbrev look : Answer
  look = byte_answer m x order groups count (byte_after m x order groups count b (picks ws)) ready_set

  abbrev Same : Type 0
  Same = answer_lent m x order groups count s (preview ws) ≡ shown (answer_lent m x order groups count s (picks ws)) look

  refused : {q p : ℕ} → answer_lent m x order groups count s (picks ws) ≡ denied q p → Same
  refused e = on_copy.same m x order groups count s ws ∙ shown-denied e _ look

  module _ (size : length b.state ≡ state_bytes) (pass : passed m x order groups count ≡ true) where
    ok : Accepted j
    ok = (lent_runs.every m x order groups count pass).accepted

    told : answer_lent m x order groups count s (picks ws) ≡ answer j s (picks ws)
    told = (lent_runs.every m x order groups count pass).answered s (picks ws)

    -- the state that the picks leave is read back from the bytes that they leave
    taken : is_state j s ≡ true → Same
    unfolding byte_answer answer_in byte_after bytes_called bytes_moved state_left left_by picked_of
    taken is = on_copy.same m x order groups count s ws ∙ ap (shown (answer_lent m x order groups count s (picks ws))) (sym there)
      where
        t : State
        t = (steps j s ws).state

        on : after j s (picks ws) ≡ t
        on = unfold after state_check in_turn after_of in rw is

        left : after_lent m x order groups count s (picks ws) ≡ t
        left = (lent_runs.every m x order groups count pass).left s (picks ws) ∙ on

        fits : Fits t
        fits = let whole : Fits s = record { held = blocks_fit (whole_blocks 8 (drop count_bytes b.state)); sums = blocks_fit (whole_blocks 8 b.sums) } in subst Fits on (after-fits j s (picks ws) whole)

        still : is_state j t ≡ true
        still = steps-stay j s ws is

        counts : length t.made ≡ max_workers
        counts = (steps-long j s ws).0 ∙ length_decoded number 4 (take count_bytes b.state) ∙ rw (length-take-le count_bytes b.state (omega arith))

        sized : Sized t
        sized = record {
          made-length = counts;
          held-length = (steps-long j s ws).1 ∙ length_decoded (signed_number 8) 8 (drop count_bytes b.state) ∙ rw (length-drop, size);
          counts = counts_fit j ok t still counts;
          fits = fits;
        }

        room : length b.sums / 8 ≡ length t.sums
        room = sym (length_decoded (signed_number 8) 8 b.sums) ∙ n-sums j ok s is ∙ sym (n-sums j ok t still)

        -- the bytes after the picks
        over : Bytes
        over = record { state = stored (bytes_in t) b.state; sums = stored (signed_bytes 8 t.sums) b.sums }

        picked : answer j s (picks ws) ≡ picked_of (steps j s ws).taken (steps j s ws).number
        picked = unfold answer state_check in_turn answer_of in rw is

        stored_is : byte_after m x order groups count b (picks ws) ≡ over
        stored_is = rw (eq-eqb (length b.state) state_bytes size, told, picked, left) refl

        there : look ≡ answer_lent m x order groups count (after_lent m x order groups count s (picks ws)) ready_set
        there =
            let k = state-left t sized b.state b.sums size room in
            let read : byte_answer m x order groups count over ready_set ≡ answer_lent m x order groups count t ready_set = rw (eq-eqb (length over.state) state_bytes k.0, k.1) in
            ap (λ (c : Bytes). byte_answer m x order groups count c ready_set) stored_is ∙ read ∙ ap (λ (u : State). answer_lent m x order groups count u ready_set) (sym left)

    same-passed : Same
    same-passed = go (is_state j s) refl
      where
        go : (c : Bool) → is_state j s ≡ c → Same
        go true e = taken e
        go false e = let no : answer j s (picks ws) ≡ denied why.not_state 0 = unfold answer state_check in_turn in rw e in refused (told ∙ no)

  lists-refused : passed m x order groups count ≡ false → (q : ℕ) × (p : ℕ) × (answer_lent m x order groups count s (picks ws) ≡ denied q p)
  unfolding answer_lent passed
  lists-refused e = some_refuse (job_checks m x order groups count) e (answer j s (picks ws))

  same : length b.state ≡ state_bytes → Same
  same size = go (passed m x order groups count) refl
    where
      go : (c : Bool) → passed m x order groups count ≡ c → Same
      go true e = same-passed size e
      go false e = refused (lists-refused e).2

  one : byte_answer m x order groups count b (preview ws) ≡ shown (byte_answer m x order groups count b (picks ws)) look
  unfolding byte_answer answer_in shown
  one = go (eqb (length b.state) state_bytes) refl
    where
      none : Answer
      none = in_turn denied (job_checks m x order groups count) (denied why.not_state 0)

      go : (c : Bool) → eqb (length b.state) state_bytes ≡ c → cond c (answer_lent m x order groups count s (preview ws)) none ≡ shown (cond c (answer_lent m x order groups count s (picks ws)) none) look
      go true e = same (eqb-true (length b.state) state_bytes e)
      go false e = let r = always_refused (job_checks m x order groups count) why.not_state 0 in rw r.2 refl

-- the theorem
pub byte_previews : BytePreviews
byte_previews = record { on_copy = one }
