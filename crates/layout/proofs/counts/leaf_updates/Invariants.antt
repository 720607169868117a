-- `counts::leaf_updates` meets its contract: the rows before position p are counted.
use mathlib.Core.Path.{◌≡◌}
use Prim.Native.Nat.{ℕ, ◌+◌}
use lib.ListN.{length}
use Rattle.run.specs.Job.{Job}
use Rattle.run.specs.Updates.{up_to}
use Rattle.layout.specs.Code.UpdateTable.{Sized, Stretch}
use Rattle.layout.proofs.counts.leaf_updates.Given as goal

abbrev pub invariant-loop-p : goal.invariant-loop-p
invariant-loop-p l =
    ((j : Job) (i w : ℕ) → Sized j l.sizes → Stretch j i w l.start l.end → length (up_to j w l.start) + l.updates ≡ length (up_to j w l.p))
