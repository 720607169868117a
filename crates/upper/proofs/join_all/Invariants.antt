-- `join_all` meets its contract: the positions before q have joined.
use mathlib.Core.Path.{◌≡◌}
use Rattle.matrix.specs.Held.{held}
use Rattle.upper.specs.Code.Upper.{Upper}
use Rattle.upper.specs.Code.Triangle.{order_of}
use Rattle.upper.proofs.join_all.Given as goal

abbrev pub invariant-loop-q : goal.invariant-loop-q
invariant-loop-q g l =
    Upper (held l.ordered.m) (order_of l.ordered) l.initial.next l.q l.next l.triangle.at l.triangle.beside × (l.triangle.parts ≡ l.initial.triangle.parts)
