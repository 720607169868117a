-- Each turn writes one record after those before it.
use mathlib.Core.Path.{◌≡◌}
use mathlib.Core.List.{map}
use Prim.Native.Nat.{◌*◌}
use lib.ListN.{take}
use Rattle.plan.specs.Groups.{width, flat, group_of}
use Rattle.groups.proofs.flatten.Given as goal

abbrev pub invariant-loop-k : goal.invariant-loop-k
invariant-loop-k l = take (width * l.k) l.numbers ≡ flat (map group_of (take l.k l.groups))
