-- `join` meets its contract: position q has joined the lists of the rows in the first k columns.
use mathlib.Core.Path.{◌≡◌}
use mathlib.Core.List.{List}
use Prim.Native.Nat.{ℕ}
use Rattle.matrix.specs.Held.{held}
use Rattle.upper.specs.Code.Upper.{Parts}
use Rattle.upper.specs.Code.Triangle.{order_of}
use Rattle.upper.proofs.JoinRows.{Joined}
use Rattle.upper.proofs.join.Given as goal

abbrev pub invariant-loop-k : goal.invariant-loop-k
invariant-loop-k g l =
    ((begins : List ℕ) → Parts (held l.ordered.m) (order_of l.ordered) begins → Joined (held l.ordered.m) (order_of l.ordered) begins l.q l.row_columns 0 l.initial.next l.initial.triangle.at l.initial.triangle.beside
    → Joined (held l.ordered.m) (order_of l.ordered) begins l.q l.row_columns l.k l.next l.triangle.at l.triangle.beside)
    × (l.triangle.parts ≡ l.initial.triangle.parts)
