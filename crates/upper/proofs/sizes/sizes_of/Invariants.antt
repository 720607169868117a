-- `sizes::sizes_of` meets its contract: the positions before p have their sizes.
use Rattle.matrix.specs.Held.{held}
use Rattle.upper.specs.Code.Upper.{Sizes}
use Rattle.upper.specs.Code.Triangle.{order_of}
use Rattle.upper.proofs.sizes.sizes_of.Given as goal

abbrev pub invariant-loop-p : goal.invariant-loop-p
invariant-loop-p l = Sizes (held l.ordered.m) (order_of l.ordered) l.p l.sizes
