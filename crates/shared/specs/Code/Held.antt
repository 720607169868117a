-- The roof that the code's lists hold: all groups in its list are the plan's.
use Rattle.std.specs.Prelude.{List, ◌/◌, ℤ, length}
use Rattle.matrix.specs.Held.{held}
use Rattle.plan.specs.Groups.{width}
use Rattle.layout.specs.Code.UpdateTable.{Given}
use Rattle.crews.specs.Crews.{Crew, Two, own_of, Roof}
use Rattle.crews.specs.Calls.{roof_of}
use Rattle.shared.specs.declared.Roof as code

-- the displacements of both
abbrev pub both_moves : code.Roof → Two (List ℤ)
both_moves r = record { of0 = r.displacements0.now; of1 = r.displacements1.now }

abbrev pub roof_in : code.Roof → Roof
roof_in r = roof_of (held r.matrix) (both_moves r) r.plan.order.now r.plan.groups.now (length r.plan.groups.now / width)

-- .. is accepted, for each crew
abbrev pub GivenFor : code.Roof → Type 0
GivenFor r = (c : Crew) → Given r.matrix.n r.matrix.starts.now r.matrix.columns.now r.matrix.values.now (own_of (both_moves r) c) r.plan.order.now r.plan.groups.now (length r.plan.groups.now / width)
