-- The jobs of a roof whose lists are given: planned, and both crews' states judged by the counts.
use mathlib.Core.Path.{◌≡◌, ap₂}
use mathlib.Core.Bool.{◌&&◌}
use mathlib.Core.List.{List}
use Prim.Native.Nat.{ℕ, ◌/◌}
use lib.IntN.{ℤ}
use lib.ListN.{length, take}
use Rattle.matrix.specs.Matrix.{matrix_of}
use Rattle.plan.specs.Groups.{width}
use Rattle.plan.specs.Sound.{max_workers}
use Rattle.run.specs.Job.{job_of}
use Rattle.tables.specs.Code.Laid.{Counted}
use Rattle.upper.specs.Code.Upper.{Sizes}
use Rattle.layout.specs.Code.UpdateTable.{Given, Planned}
use Rattle.layout.proofs.GivenRows.{planned-of}
use Rattle.machine.specs.Code.Tests.{all_below, fine}
use Rattle.calls.proofs.Prepared.{counted-state}
use Rattle.crews.specs.Crews.{Crew, crew0, crew1, Two, own_of, Roof, job_for}
use Rattle.crews.specs.Calls.{roof_of}
use Rattle.turns.specs.Records.{states_of}
use Rattle.turns.specs.declared.Crews.{Crews}
use Rattle.shared.proofs.Sharing.{are_states}

module _ {rows : ℕ} {starts columns : List ℕ} {values : List ℤ} (x : Two (List ℤ)) {order groups : List ℕ}
    (g : (c : Crew) → Given rows starts columns values (own_of x c) order groups (length groups / width)) where
  abbrev pub roof : Roof
  roof = roof_of (matrix_of rows starts columns values) x order groups (length groups / width)

  pub roof-planned : {sizes : List ℕ} → Sizes (matrix_of rows starts columns values) (take rows order) rows sizes
      → (d : Crew) → Planned (job_for roof d) groups (length groups / width) sizes
  unfolding roof_of job_of
  roof-planned h d = planned-of (g d) h

  pub roof-states : {first : List ℕ} → ((d : Crew) → Counted (job_for roof d) first) → (crews : Crews) (sums0 sums1 : List ℤ)
      → length sums0 ≡ rows → length sums1 ≡ rows
      → are_states roof (states_of crews sums0 sums1) ≡ all_below (fine first crews.of0.made) max_workers && all_below (fine first crews.of1.made) max_workers
  unfolding roof_of job_of
  roof-states counted crews sums0 sums1 l0 l1 = ap₂ ◌&&◌ (counted-state (g crew0) (counted crew0) _ l0) (counted-state (g crew1) (counted crew1) _ l1)
