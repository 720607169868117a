-- What the records of an accepted job give to the code: tables, and the workers of the plan.
use mathlib.Core.Path.{◌≡◌, ap, ◌∙◌}
use mathlib.Core.List.{List}
use Prim.Native.Nat.{ℕ, ◌+◌, ◌*◌, ◌≤◌}
use native.Mathlib.Omega.{arith}
use lib.ListN.{length, replicate}
use Rattle.matrix.specs.Limits.{max_rows}
use Rattle.matrix.proofs.Matrix.{matrix_facts}
use Rattle.plan.specs.Groups.{Group, group_of, width}
use Rattle.plan.specs.Sound.{max_workers, max_groups}
use Rattle.plan.specs.Code.Checks.{record_at}
use Rattle.plan.specs.declared.fields.Group as code
use Rattle.run.specs.Job.{Job, workers}
use Rattle.run.proofs.Accepted.{facts}
use Rattle.tables.specs.Code.Laid.{max_updates}
use Rattle.waits.specs.Code.Waits.{Recorded}
use Rattle.layout.specs.Code.UpdateTable.{Planned, Blank}
use Rattle.layout.proofs.FilledRows.{blank-zeros}
use Rattle.machine.proofs.BlockedLeaves.{whole-crew, recorded_of}

module _ {j : Job} {groups : List ℕ} {count : ℕ} {sizes : List ℕ} (g : Planned j groups count sizes) where
  -- its tables are made of zeros
  pub planned-blank : Blank j.matrix.n (replicate max_updates 0) (replicate max_rows 0) (replicate max_rows 0) (replicate max_groups 0)
  planned-blank = blank-zeros j.matrix.n (matrix_facts j.matrix g.sized.accepted.matrix).some

  -- the records are as the code needs them
  pub planned_recorded : Recorded count groups
  planned_recorded = recorded_of j g.sized.accepted count groups g.groups_are g.groups_long

  -- there is one
  pub planned_record : width * (0 + 1) ≤ length groups
  planned_record = omega (arith, g.groups_long, planned_recorded.some)

  -- it has the plan's workers
  whole-workers : (record_at groups 0).workers ≡ workers j
  whole-workers = whole-crew j count groups planned_recorded.some g.groups_are

  -- .. at most 16
  pub whole-few : (record_at groups 0).workers ≤ max_workers
  whole-few = omega (arith, whole-workers, (facts j g.sized.accepted).few)

  -- .. as the code reads it
  module _ (r : code.Group) (e : group_of r ≡ record_at groups 0) where
    pub read-crew : r.workers ≡ workers j
    read-crew = ap (λ (w : Group). w.workers) e ∙ whole-workers

    pub read-few : r.workers ≤ max_workers
    read-few = omega (arith, ap (λ (w : Group). w.workers) e, whole-few)
