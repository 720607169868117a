-- `queue_rows` meets its contract: i rows are copied.
use mathlib.Core.Path.{◌≡◌}
use Rattle.base.proofs.Stored.{copied}
use Rattle.search.proofs.region.queue_rows.Given as goal

abbrev pub invariant-loop-i : goal.invariant-loop-i
invariant-loop-i l = l.queue ≡ copied l.own l.initial.queue l.i
