-- `sizes::later_columns` meets its contract: the first k columns are counted.
use mathlib.Core.Path.{◌≡◌}
use lib.ListN.{length, take}
use Rattle.upper.specs.Code.Upper.{later_in}
use Rattle.upper.proofs.sizes.later_columns.Given as goal

abbrev pub invariant-loop-column : goal.invariant-loop-column
invariant-loop-column l = (l.later ≡ length (later_in l.position l.p (take l.column-index l.columns)))
