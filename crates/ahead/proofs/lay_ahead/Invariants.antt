-- `lay_ahead` meets its contract: the rows that the workers before w can reach have their parts.
use mathlib.Core.Bool.{false}
use Prim.Native.Nat.{◌≤◌}
use Rattle.matrix.specs.Held.{held}
use Rattle.upper.specs.Code.Triangle.{order_of}
use Rattle.ahead.specs.Code.Ahead.{PartsOf}
use Rattle.ahead.proofs.AheadRows.{Serving}
use Rattle.ahead.proofs.lay_ahead.Given as goal

abbrev pub invariant-loop-w : goal.invariant-loop-w
invariant-loop-w g l =
    (l.next ≤ g.row.N)
    × (PartsOf (held l.rows.ordered.m) (order_of l.rows.ordered) (λ q. false) 0 l.initial.triangle.parts l.initial.triangle.at l.initial.triangle.beside
    → Serving (held l.rows.ordered.m) (order_of l.rows.ordered) l.tables.first.now l.tables.row.now l.made l.picks l.w l.next l.triangle.parts l.triangle.at l.triangle.beside)
