-- A run in bytes is the run of the job.
use mathlib.Core.Path.{◌≡◌, sym, ap, ◌∙◌}
use mathlib.Core.Bool.{true}
use mathlib.Core.List.{List}
use Prim.Native.Nat.{ℕ, ◌/◌, ◌≤◌}
use native.Mathlib.Omega.{arith}
use lib.IntN.{ℤ}
use lib.ListN.{length}
use borrow.Author.Tests.{eq-eqb}
use Rattle.base.specs.Replies.{in_turn, lent}
use Rattle.matrix.specs.Matrix.{Matrix}
use Rattle.matrix.specs.Product.{product}
use Rattle.run.specs.Job.{Job, job_of}
use Rattle.run.specs.Machine.{is_state, steps}
use Rattle.run.specs.Rounds.{round}
use Rattle.run.specs.State.{State, fresh}
use Rattle.run.specs.Calls.{picked_of, passed_of, answer_of, after_of, state_check, answer, after}
use Rattle.run.specs.Answers.{Call, picks, ready_set, force_list, preview, rounds, Answer, picked, forces}
use Rattle.run.specs.EveryRun.{run_state, run_answers, finished_run}
use Rattle.run.specs.LentRuns.{passed, LentRun}
use Rattle.run.proofs.Sequence.{all_answered, all_left, all-met}
use Rattle.run.proofs.Accepted.{facts}
use Rattle.run.proofs.AsModel.{fine, call_model}
use Rattle.run.proofs.EveryRun.{every_run}
use Rattle.run.proofs.Fits.{Fits, fits_fresh, after-fits, counts_fit}
use Rattle.run.proofs.Invariant.{Inv, inv_fresh}
use Rattle.run.proofs.LentRuns.{lent_runs}
use Rattle.words.specs.LittleEndian.{signed_bytes, stored}
use Rattle.lent.specs.Word.{word}
use Rattle.answers.specs.Runs.{state_bytes, answer_in, reply_to, force_bytes, ForcesAnswered, bytes_in, left_by}
use Rattle.meaning.specs.ByteRuns.{in_bytes, bytes_moved, bytes_called, byte_answer, state_left, byte_after, byte_answers, run_bytes, ByteRun, ByteRuns}
use Rattle.meaning.proofs.StateBack.{Sized, state-length, state-back, sums-length, zeros-fresh}
use Rattle.answers.proofs.StateBytes.{stored-over}

-- a force-list call that is answered with forces
forces_left : {a : Answer} {zs : List ℤ} {old : List ℕ} {returned : ℕ} {new : List ℕ} → a ≡ forces zs → ForcesAnswered a old returned new → (returned ≡ 0) × (new ≡ stored (signed_bytes 8 zs) old)
unfolding reply_to force_bytes word lent
forces_left e h = let k = rw e at h in (k.returns, k.leaves)

module _ (m : Matrix) (x : List ℤ) (order groups : List ℕ) (count : ℕ) (pass : passed m x order groups count ≡ true) where
  abbrev job : Job
  job = job_of m x order groups count

  same : LentRun m x order groups count
  same = lent_runs.every m x order groups count pass

  -- a state that a run meets
  pub record Met (s : State) : Type 0 where
    pub inv : Inv job s
    pub fits : Fits s

  met-fresh : Met (fresh m.n)
  unfolding job_of
  met-fresh = record { inv = inv_fresh job; fits = fits_fresh m.n }

  met-after : (s : State) → Met s → (c : Call) → Met (after job s c)
  met-after s k c = record { inv = (call_model job (facts job same.accepted) s k.inv c).inv; fits = after-fits job s c k.fits }

  pub sized : (s : State) → Met s → Sized s
  sized s k = record { made-length = k.inv.made-length; held-length = k.inv.held-length; counts = counts_fit job same.accepted s k.inv; fits = k.fits }

  pub is_state_lem : (s : State) → Met s → is_state job s ≡ true
  is_state_lem s k = fine job (facts job same.accepted) s k.inv

  -- ---- one call

  pub one_answer : (s : State) → Met s → (c : Call) → byte_answer m x order groups count (in_bytes s) c ≡ answer job s c
  unfolding byte_answer answer_in
  one_answer s k c = rw (eq-eqb (length (bytes_in s)) state_bytes (state-length s (sized s k)), state-back s (sized s k)) (same.answered s c)

  one_left : (s : State) → Met s → (c : Call) → state_left m x order groups count (in_bytes s) c ≡ after job s c
  unfolding state_left
  one_left s k c = rw (state-back s (sized s k)) (same.left s c)

  -- picks are taken, if only some or none: no check refuses them
  one-moved : (s : State) → Met s → (c : Call) {t q p : ℕ} → answer job s c ≡ picked t q p
      → bytes_moved (byte_answer m x order groups count (in_bytes s) c) (state_left m x order groups count (in_bytes s) c) (in_bytes s) ≡ in_bytes (after job s c)
  unfolding bytes_moved left_by
  one-moved s k c e =
      let t = after job s c in
      let l = met-after s k c in
      rw (
        one_answer s k c,
        e,
        one_left s k c,
        stored-over (bytes_in t) (bytes_in s) (state-length t (sized t l) ∙ sym (state-length s (sized s k))),
        stored-over (signed_bytes 8 t.sums) (signed_bytes 8 s.sums) (sums-length t.sums s.sums (l.inv.sums-length ∙ sym k.inv.sums-length)),
      )

  picks-answer : (s : State) → Met s → (ws : List ℕ) → answer job s (picks ws) ≡ picked_of (steps job s ws).taken (steps job s ws).number
  unfolding answer state_check in_turn answer_of
  picks-answer s k ws = rw (is_state_lem s k)

  rounds-answer : (s : State) → Met s → (ws : List ℕ) → answer job s (rounds ws) ≡ passed_of (round job s ws)
  unfolding answer state_check in_turn answer_of
  rounds-answer s k ws = rw (is_state_lem s k)

  one-after : (s : State) → Met s → (c : Call) → byte_after m x order groups count (in_bytes s) c ≡ in_bytes (after job s c)
  unfolding byte_after bytes_called after state_check in_turn after_of picked_of passed_of
  one-after s k (picks ws) = one-moved s k (picks ws) (picks-answer s k ws)
  one-after s k (rounds ws) = one-moved s k (rounds ws) (rounds-answer s k ws)
  one-after s k ready_set = rw (is_state_lem s k)
  one-after s k (force_list room) = rw (is_state_lem s k)
  one-after s k (preview ws) = rw (is_state_lem s k)

  -- ---- a run, call by call

  module _ (cs : List Call) where
    pub met : Met (run_state job cs)
    unfolding run_state job_of
    met = all-met (answer job) (after job) (byte_answer m x order groups count) (byte_after m x order groups count) in_bytes Met one_answer one-after met-after (fresh m.n) met-fresh cs

    left : run_bytes m x order groups count cs ≡ in_bytes (run_state job cs)
    unfolding run_bytes run_state job_of
    left =
        rw (zeros-fresh m.n)
        (all_left (answer job) (after job) (byte_answer m x order groups count) (byte_after m x order groups count) in_bytes Met one_answer one-after met-after (fresh m.n) met-fresh cs)

    answers-are : byte_answers m x order groups count cs ≡ run_answers job cs
    unfolding byte_answers run_answers job_of
    answers-are =
        rw (zeros-fresh m.n)
        (all_answered (answer job) (after job) (byte_answer m x order groups count) (byte_after m x order groups count) in_bytes Met one_answer one-after met-after (fresh m.n) met-fresh cs)

    -- the answer to a force-list call once the run is finished
    product-answer : finished_run job cs ≡ true → (room : ℕ) → m.n ≤ room → byte_answer m x order groups count (run_bytes m x order groups count cs) (force_list room) ≡ forces (product m x)
    unfolding job_of
    product-answer o room l =
        let run = every_run.every_run job same.accepted cs in
        rw left (one_answer (run_state job cs) met (force_list room) ∙ run.forced o room l ∙ ap forces (run.whole o))

    byte-run : ByteRun m x order groups count cs
    byte-run = record {
      answered = answers-are;
      left = left;
      read_back = rw left (state-back (run_state job cs) (sized (run_state job cs) met));
      forced = λ o old returned new room h. forces_left (product-answer o (length old / 8) (omega arith)) h;
    }

-- the theorem
pub byte-runs : ByteRuns
byte-runs = record { every = byte-run }
