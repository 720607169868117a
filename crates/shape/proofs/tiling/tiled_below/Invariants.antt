-- `tiling::tiled_below`: the tests of the children that are left.
use mathlib.Core.Path.{◌≡◌}
use Prim.Native.Nat.{ℕ, ◌-◌, ◌≤◌, ◌<◌}
use lib.ListN.{drop}
use Rattle.std.proofs.Common.{Some}
use Rattle.plan.specs.Groups.{records}
use Rattle.plan.specs.Sound.{children}
use Rattle.plan.specs.Code.Checks.{record_at, below_whole, laid, tiles}
use Rattle.shape.specs.Code.Shape.{index_of}
use Rattle.shape.proofs.tiling.tiled_below.Given as goal

abbrev pub invariant-loop-next : goal.invariant-loop-next
invariant-loop-next l =
    (tiles (record_at l.plan.groups.now l.k) (children l.k (below_whole l.plan.count l.plan.groups.now))
    ≡ laid (record_at l.plan.groups.now l.k) l.s l.f l.w (children l.k (drop (index_of l.plan.count l.next) (records l.plan.count l.plan.groups.now))))
    × (l.k < index_of l.plan.count l.next) × (index_of l.plan.count l.next ≤ l.plan.count)
    × ((c : ℕ) → l.next ≡ Some c → (c < l.plan.count) × ((record_at l.plan.groups.now c).parent ≡ l.k))

abbrev pub decreases-loop-next : goal.decreases-loop-next
decreases-loop-next l = l.plan.count - index_of l.plan.count l.next
