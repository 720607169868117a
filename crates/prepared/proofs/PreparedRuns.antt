-- The calls on the list that prepare leaves for a job are the calls on the job.
use mathlib.Core.Path.{◌≡◌, sym, ap, ◌∙◌}
use mathlib.Core.Bool.{true}
use mathlib.Core.List.{List, ◌++◌}
use Prim.Native.Nat.{ℕ, ◌≤◌}
use native.Mathlib.Omega.{arith}
use lib.IntN.{ℤ}
use lib.ListN.{length}
use Rattle.base.specs.Replies.{in_turn}
use Rattle.base.proofs.Pieces.{length_pieces}
use Rattle.matrix.specs.Matrix.{Matrix}
use Rattle.matrix.proofs.Matrix.{matrix_facts}
use Rattle.plan.specs.Sound.{max_workers}
use Rattle.run.specs.Job.{Job, job_of}
use Rattle.run.specs.Updates.{updates}
use Rattle.run.specs.LentRuns.{passed, LentRun}
use Rattle.run.proofs.LentRuns.{lent_runs}
use Rattle.layout.proofs.UpdateRoom.{first-room}
use Rattle.prepared.specs.Tables.{answer_by, after_by}
use Rattle.prepared.specs.Format.{Lists, tables_of, lists_in, is_prepared, lists_of, prepared_bytes}
use Rattle.prepared.specs.PreparedRuns.{TableRun, prepared_check, answer_prepared, after_prepared, max_prepared, PreparedRun, PreparedRuns}
use Rattle.prepared.proofs.TableRuns.{table_runs}
use Rattle.prepared.proofs.TablesOf.{tables-of}
use Rattle.prepared.proofs.JobFits.{job-fits}
use Rattle.prepared.proofs.ReadBack as back

module _ (m : Matrix) (x : List ℤ) (order groups : List ℕ) (count : ℕ) (ok : passed m x order groups count ≡ true) where
  abbrev j : Job
  j = job_of m x order groups count

  lent : LentRun m x order groups count
  lent = lent_runs.every m x order groups count ok

  fits : back.Fits (lists_of j)
  fits = job-fits j lent.accepted

  run : TableRun (tables_of (lists_of j)) j
  run = table_runs.every (tables_of (lists_of j)) j lent.accepted (tables-of j lent.accepted)

  module _ (rest : List ℕ) where
    abbrev b : List ℕ
    b = prepared_bytes j ++ rest

    is-prepared : is_prepared b ≡ true
    unfolding prepared_bytes
    is-prepared = back.prepared (lists_of j) fits rest

    lists : lists_in b ≡ lists_of j
    unfolding prepared_bytes
    lists = back.read_back (lists_of j) fits rest

  prepared-long : length (prepared_bytes j) ≤ max_prepared
  unfolding prepared_bytes lists_of job_of
  prepared-long = omega (arith, back.lists-long (lists_of j) fits, length_pieces (updates j) max_workers, first-room j lent.accepted max_workers (omega arith), (matrix_facts m lent.accepted.matrix).few)

  prepared-run : PreparedRun m x order groups count
  unfolding answer_prepared after_prepared prepared_check in_turn
  prepared-run = record {
    prepared = is-prepared;
    answered = λ rest s c. rw (is-prepared rest) (ap (λ (L : Lists). answer_by (tables_of L) s c) (lists rest) ∙ run.answered s c ∙ sym (lent.answered s c));
    left = λ rest s c. rw (is-prepared rest) (ap (λ (L : Lists). after_by (tables_of L) s c) (lists rest) ∙ run.left s c ∙ sym (lent.left s c));
    short = prepared-long;
  }

-- the theorem
pub prepared-runs : PreparedRuns
prepared-runs = record { every = prepared-run }
