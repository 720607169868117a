-- A job that passed the checks: its records, its displacements, and whether its workers are done.
use mathlib.Core.Path.{◌≡◌, refl, sym, ap, ◌∙◌, subst}
use mathlib.Core.Bool.{true}
use mathlib.Core.List.{List, [], ◌++◌, append-nil}
use Prim.Native.Nat.{ℕ, ◌*◌, ◌/◌, ◌≤◌, ◌<◌}
use native.Mathlib.Omega.{arith}
use lib.IntN.{ℤ}
use lib.ListN.{length, get_or, take, length-take}
use lib.Seq.{get_or-take}
use Rattle.base.specs.Replies.{accepted, refused, in_turn}
use Rattle.matrix.specs.Limits.{max_rows}
use Rattle.matrix.proofs.Matrix.{displacements-many}
use Rattle.matrix.specs.Matrix.{Matrix, matrix_of}
use Rattle.plan.specs.Groups.{width, plan_of, records, flat}
use Rattle.plan.specs.Sound.{max_workers, each_once}
use Rattle.run.specs.Job.{Job, job_of, Accepted, workers}
use Rattle.run.specs.Machine.{over, is_state}
use Rattle.run.specs.State.{State}
use Rattle.run.specs.Calls.{job_checks}
use Rattle.run.proofs.Accepted.{facts, tree_of}
use Rattle.tables.specs.Code.Laid.{Counted}
use Rattle.upper.proofs.PlacedRows.{row_low}
use Rattle.layout.specs.Code.UpdateTable.{Given}
use Rattle.layout.proofs.GivenRows.{lent_of, few-rows}
use Rattle.layout.proofs.PlannedCut.{cut, cut-count, cut-records}
use Rattle.machine.specs.Code.Tests.{all_below, fine, done}
use Rattle.machine.proofs.TableWaits.{table-over, table-state}
use Rattle.calls.proofs.JobChecked.{job-given}

-- the groups of a job in lent lists
pub job-groups : (m : Matrix) (x : List ℤ) (order groups : List ℕ) (count : ℕ) → (job_of m x order groups count).plan.groups ≡ records count groups
unfolding job_of plan_of
job-groups m x order groups count = refl

-- .. its rows, and its order
pub job-rows : (m : Matrix) (x : List ℤ) (order groups : List ℕ) (count : ℕ) → (job_of m x order groups count).matrix.n ≡ m.n
unfolding job_of
job-rows m x order groups count = refl

pub job-order : (m : Matrix) (x : List ℤ) (order groups : List ℕ) (count : ℕ) → (job_of m x order groups count).plan.order ≡ take m.n order
unfolding job_of plan_of
job-order m x order groups count = refl

-- ---- the plan's records, cut from a longer list

module _ (groups : List ℕ) (count : ℕ) (fits : width * count ≤ length groups) where
  pub cut-job : (m : Matrix) (x : List ℤ) (order : List ℕ) → job_of m x order (cut groups count fits) (length (cut groups count fits) / width) ≡ job_of m x order groups count
  unfolding job_of plan_of
  cut-job m x order = rw (cut-count groups count fits, cut-records groups count fits) refl

  pub cut-given : {n : ℕ} {starts columns : List ℕ} {values x : List ℤ} {order : List ℕ} → Given n starts columns values x order groups count → Given n starts columns values x order (cut groups count fits) (length (cut groups count fits) / width)
  cut-given g = record {
    accepted = subst Accepted (sym (cut-job _ _ _)) g.accepted;
    order_long = g.order_long;
    groups_long = omega (arith, cut-count groups count fits, length-take (width * count) groups);
  }

-- ---- the job in lent lists

module _ {n : ℕ} {starts columns : List ℕ} {values x : List ℤ} {order groups : List ℕ} {count : ℕ} where
  -- lists that pass hold an accepted job
  pub passed-given : (k : ℕ) → accepted k ≡ in_turn refused (job_checks (matrix_of n starts columns values) x order groups count) (accepted 0) → Given n starts columns values x order groups count
  passed-given k e = job-given (matrix_of n starts columns values) x order groups count k (sym e)

  -- its order
  pub given-order : Given n starts columns values x order groups count → (n ≤ length order) × (each_once n (take n order) ≡ true)
  unfolding job_of plan_of
  given-order g = (g.order_long, (tree_of (job_of (matrix_of n starts columns values) x order groups count) g.accepted).once)

  module _ (g : Given n starts columns values x order groups count) where
    abbrev j : Job
    j = job_of (matrix_of n starts columns values) x order groups count

    -- there is a displacement for each row
    pub given-many : length x ≡ n
    unfolding job_of
    given-many = displacements-many n x g.accepted.displacements

    pub given_displaced : (length x ≤ length order) × (length x ≤ max_rows) × ((p : ℕ) → p < length x → get_or order p 0 < length x)
    given_displaced =
        let o = (lent_of g).ordered in (
          omega (arith, given-many, g.order_long),
          omega (arith, given-many, few-rows g),
          λ p l. omega (arith, given-many, get_or-take n order p 0 (omega (arith, given-many)), row_low (matrix_of n starts columns values) (take n order) o p (omega (arith, given-many))),
        )

    module _ {first : List ℕ} (c : Counted j first) where
      -- n sums: the counts decide whether there is a state
      pub counted-state : (s : State) → length s.sums ≡ n → is_state j s ≡ all_below (fine first s.made) max_workers
      unfolding job_of
      counted-state s l = table-state j c s l

      -- whether they all made all their accesses
      pub counted-over : (made : List ℕ) {crew : ℕ} → crew ≡ workers j → all_below (done first made) crew ≡ over j made
      counted-over made e = table-over j c made _ e (facts j g.accepted).few
