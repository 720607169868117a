-- `tiling::next_child`: no child is passed.
use mathlib.Core.Path.{◌≡◌}
use Prim.Native.Nat.{◌≤◌}
use lib.ListN.{drop}
use Rattle.plan.specs.Groups.{records}
use Rattle.plan.specs.Sound.{children}
use Rattle.shape.proofs.tiling.next_child.Given as goal

abbrev pub invariant-loop-i : goal.invariant-loop-i
invariant-loop-i l = (l.from ≤ l.i) × (l.i ≤ l.plan.count) × (children l.k (drop l.from (records l.plan.count l.plan.groups.now)) ≡ children l.k (drop l.i (records l.plan.count l.plan.groups.now)))
