-- `nesting::depth_first`: the test of the records that are left, from the path of the last one.
use mathlib.Core.Path.{◌≡◌}
use Prim.Native.Nat.{◌≤◌}
use lib.ListN.{length, drop}
use Rattle.plan.specs.Groups.{records}
use Rattle.plan.specs.Sound.{depth_first}
use Rattle.shape.specs.Code.Shape.{path_of}
use Rattle.plan.specs.Code.Checks.{stands_depth_first}
use Rattle.shape.proofs.nesting.depth_first.Given as goal

abbrev pub invariant-loop-i : goal.invariant-loop-i
invariant-loop-i l =
    (stands_depth_first l.plan.count l.plan.groups.now ≡ depth_first (path_of l.path l.t) l.i (drop l.i (records l.plan.count l.plan.groups.now))) × (l.t ≤ 5) × (length l.path ≡ 5)
