-- `put_tenants`: the numbers passed are distinct and low, and have their tenants.
use mathlib.Core.Path.{◌≡◌}
use Prim.Native.Nat.{◌*◌}
use lib.ListN.{length}
use Rattle.matrix.specs.Limits.{max_rows}
use Rattle.joined.proofs.Settled.{Settled}
use Rattle.joined.proofs.tenants.put_tenants.Given as goal

abbrev pub invariant-loop-k : goal.invariant-loop-k
invariant-loop-k l = Settled l.n l.list l.k l.tenants × (length l.tenants ≡ 2 * max_rows)
