-- `count_from`: the invariant counts those passed.
use mathlib.Core.Path.{◌≡◌}
use Prim.Native.Nat.{◌≤◌}
use lib.Dec.{leb}
use lib.ListN.{length, take}
use Rattle.base.specs.Lists.{filter}
use Rattle.joined.proofs.tenants.count_from.Given as goal

abbrev pub invariant-loop-p : goal.invariant-loop-p
invariant-loop-p l = (l.count ≤ l.p-index) × (l.count ≡ length (filter (leb l.n) (take l.p-index l.list)))
