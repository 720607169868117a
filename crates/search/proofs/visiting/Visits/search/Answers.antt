-- The region is marked, and every component searched.
use mathlib.Core.Path.{refl}
use Prim.Native.Nat.{◌-◌}
use Rattle.levels.specs.Code.Graph.{adj}
use Rattle.search.proofs.MarkedRegion.{region-is, region-small}
use Rattle.search.proofs.visiting.Visits.search.Goals as goal

pub mark_region-requires : goal.mark_region-requires
mark_region-requires c = (c.requires.0.below, c.requires.1, c.requires.2)

pub components-requires : goal.components-requires
components-requires c =
    let a = c.args in
    let g = a.scope.now.graph in
    let m = c.mark_region in
    (c.requires.0, region-is (adj g) g.m.n a.rows.now (a.scope.now.reach - 1) m.new.self.marks m.ensures a.scope.now.reach refl, region-small (adj g) g.m.n a.rows.now (a.scope.now.reach - 1) m.new.self.marks m.ensures)
