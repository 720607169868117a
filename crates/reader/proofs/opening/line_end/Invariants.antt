-- `line_end` meets its contract.
use mathlib.Core.Path.{◌≡◌}
use mathlib.Core.Bool.{true}
use Prim.Native.Nat.{ℕ}
use lib.ListN.{drop}
use Rattle.market.specs.Parse.{comments}
use Rattle.reader.proofs.opening.line_end.Given as goal

abbrev pub invariant-loop-i : goal.invariant-loop-i
invariant-loop-i l = ((k : ℕ) → comments true k (drop l.at l.s) ≡ comments true k (drop l.i l.s))
