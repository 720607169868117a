-- `skip_spaces` meets its contract.
use mathlib.Core.Path.{◌≡◌}
use Prim.Native.Nat.{◌+◌}
use lib.ListN.{drop}
use Rattle.market.specs.Fields.{spaces}
use Rattle.scan.proofs.numbers.skip_spaces.Given as goal

abbrev pub invariant-loop-i : goal.invariant-loop-i
invariant-loop-i l = l.i + spaces (drop l.i l.s) ≡ l.at + spaces (drop l.at l.s)
