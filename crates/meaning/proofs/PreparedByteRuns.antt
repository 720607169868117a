-- A run in bytes by the prepared list of a job is the run in bytes by the job's lists.
use mathlib.Core.Path.{◌≡◌, refl}
use mathlib.Core.Bool.{true}
use mathlib.Core.List.{List, ◌++◌}
use Prim.Native.Nat.{ℕ}
use lib.IntN.{ℤ}
use Rattle.matrix.specs.Matrix.{Matrix}
use Rattle.run.specs.Job.{job_of}
use Rattle.run.specs.Answers.{Call}
use Rattle.run.specs.LentRuns.{passed}
use Rattle.run.proofs.Sequence.{all_answered, all_left}
use Rattle.answers.specs.Runs.{Bytes}
use Rattle.prepared.specs.Format.{prepared_bytes}
use Rattle.rack.specs.KeptRuns.{KeptRun}
use Rattle.rack.proofs.KeptRuns.{kept-runs}
use Rattle.meaning.specs.ByteRuns.{zeros, byte_answer, state_left, byte_after, byte_answers, run_bytes}
use Rattle.meaning.specs.PreparedByteRuns.{kept_answer, kept_after, kept_answers, kept_bytes, PreparedByteRun, PreparedByteRuns}
use Rattle.meaning.proofs.ByteRuns.{byte-runs}

module _ (m : Matrix) (x : List ℤ) (order groups : List ℕ) (count : ℕ) (pass : passed m x order groups count ≡ true) (rest : List ℕ) where
  abbrev list : List ℕ
  list = prepared_bytes (job_of m x order groups count) ++ rest

  run : KeptRun m x order groups count rest
  run = kept-runs.every m x order groups count pass rest

  -- ---- one call

  answer-same : (b : Bytes) (c : Call) → kept_answer list b c ≡ byte_answer m x order groups count b c
  unfolding kept_answer byte_answer
  answer-same b c = run.answered b.state b.sums c

  after_same : (b : Bytes) (c : Call) → kept_after list b c ≡ byte_after m x order groups count b c
  unfolding kept_after byte_after state_left
  after_same b c = rw (answer-same b c, run.left b.state b.sums c) refl

  -- ---- a run, call by call

  module _ (cs : List Call) where
    answered : kept_answers list m.n cs ≡ byte_answers m x order groups count cs
    unfolding kept_answers byte_answers
    answered =
        all_answered (byte_answer m x order groups count) (byte_after m x order groups count) (kept_answer list) (kept_after list) (λ b. b) (λ b. b ≡ b) (λ b k c. answer-same b c)
        (λ b k c. after_same b c) (λ b k c. refl) (zeros m.n) refl cs

    left : kept_bytes list m.n cs ≡ run_bytes m x order groups count cs
    unfolding kept_bytes run_bytes
    left =
        all_left (byte_answer m x order groups count) (byte_after m x order groups count) (kept_answer list) (kept_after list) (λ b. b) (λ b. b ≡ b) (λ b k c. answer-same b c)
        (λ b k c. after_same b c) (λ b k c. refl) (zeros m.n) refl cs

    prepared-run : PreparedByteRun m x order groups count rest cs
    prepared-run = record {
      answered = answered;
      left = left;
      forced = λ o old returned new room h. (byte-runs.every m x order groups count pass cs).forced o old returned new room (rw (left, answer-same (run_bytes m x order groups count cs) _) at h);
    }

-- the theorem
pub prepared-byte-runs : PreparedByteRuns
prepared-byte-runs = record { every = prepared-run }
