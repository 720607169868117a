-- The order of the rows that the code holds with their matrix.
use Rattle.std.specs.Prelude.{List, ℕ, take}
use Rattle.upper.specs.declared.triangle.OrderedMatrix.{OrderedMatrix}

abbrev pub order_of : OrderedMatrix → List ℕ
order_of r = take r.m.n r.order.now
