-- What the lists of an accepted job give to the tables.
use mathlib.Core.Path.{refl, ap, ◌∙◌}
use mathlib.Core.List.{List}
use Prim.Native.Nat.{ℕ, ◌≤◌}
use lib.IntN.{ℤ}
use lib.ListN.{length, take}
use Rattle.matrix.specs.Limits.{max_rows}
use Rattle.matrix.specs.Matrix.{matrix_of}
use Rattle.matrix.proofs.Matrix.{matrix_facts}
use Rattle.plan.specs.Groups.{plan_of}
use Rattle.run.specs.Job.{Job, job_of}
use Rattle.run.proofs.Accepted.{tree_of}
use Rattle.upper.specs.Code.Upper.{Lent, Sizes}
use Rattle.upper.proofs.UpperRows.{upper_whole}
use Rattle.layout.specs.Code.UpdateTable.{Given, Planned}

module _ {n : ℕ} {starts columns : List ℕ} {values x : List ℤ} {order groups : List ℕ} {count : ℕ} (g : Given n starts columns values x order groups count) where
  abbrev j : Job
  j = job_of (matrix_of n starts columns values) x order groups count

  pub lent_of : Lent n starts columns values order
  unfolding job_of plan_of
  lent_of = record { ordered = record { matrix = g.accepted.matrix; once = (tree_of j g.accepted).once }; long = g.order_long }

  pub few-rows : n ≤ max_rows
  unfolding job_of
  few-rows = (matrix_facts j.matrix g.accepted.matrix).few

  -- the sizes of the rows of the whole upper triangle
  pub planned-of : {sizes : List ℕ} → Sizes (matrix_of n starts columns values) (take n order) n sizes → Planned j groups count sizes
  unfolding job_of plan_of
  planned-of t = record {
    sized = record { accepted = g.accepted; is = λ p l. t.is p l ∙ ap length (upper_whole j p l) };
    groups_are = refl;
    groups_long = g.groups_long;
  }
