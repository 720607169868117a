-- `put_leaf` meets its contract: the rows of the leaf before position p have their updates.
use mathlib.Core.Path.{◌≡◌}
use Prim.Native.Nat.{ℕ}
use Rattle.run.specs.Job.{Job}
use Rattle.tables.specs.Code.Laid.{next_of}
use Rattle.layout.specs.Code.UpdateTable.{Sized, Stretch, Filled}
use Rattle.layout.proofs.put_leaf.Given as goal

abbrev pub invariant-loop-p : goal.invariant-loop-p
invariant-loop-p l =
    let u = l.updates in
    let v = l.initial.updates in
    ((j : Job) (w : ℕ) → Sized j l.sizes → Stretch j l.i w l.start l.end → l.place ≡ next_of j w l.start → Filled j l.start v.row v.begins v.leaves → (l.next ≡ next_of j w l.p) × Filled j l.p u.row u.begins u.leaves)
    × (u.ends ≡ v.ends)
