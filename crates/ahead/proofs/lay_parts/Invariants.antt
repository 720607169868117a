-- `lay_parts` meets its contract: the rows of the places before k have their parts.
use mathlib.Core.Bool.{Bool}
use Prim.Native.Nat.{ℕ, ◌≤◌}
use Rattle.matrix.specs.Held.{held}
use Rattle.upper.specs.Code.Triangle.{order_of}
use Rattle.ahead.specs.Code.Ahead.{PartsOf}
use Rattle.ahead.proofs.AheadRows.{Going}
use Rattle.ahead.proofs.lay_parts.Given as goal

abbrev pub invariant-loop-k : goal.invariant-loop-k
invariant-loop-k g l =
    (l.next ≤ g.row.N)
    × ((some : ℕ → Bool) → PartsOf (held l.rows.ordered.m) (order_of l.rows.ordered) some l.place l.initial.triangle.parts l.initial.triangle.at l.initial.triangle.beside
    → Going (held l.rows.ordered.m) (order_of l.rows.ordered) l.row some l.from l.k l.next l.last l.triangle.parts l.triangle.at l.triangle.beside)
