use native.Mathlib.Omega.{arith}
use Rattle.levels.specs.Code.Graph.{adj}
use Rattle.search.proofs.Frontiers.{kept_refl}
use Rattle.search.proofs.AllComponents.{roots_below, between_start, levelled}
use Rattle.search.proofs.visiting.Visits.components.Goals as goal

pub loop-i-init : goal.loop-i-init
loop-i-init c =
    let a = c.args in
    let g = a.scope.now.graph in
    (between_start (adj g) a.scope.now.reach g.m.n a.own.now a.own.now a.self.now.marks a.self.now.queue g.rows.small (omega arith) (omega arith) c.requires.1 c.requires.2, kept_refl a.self.now.marks)

pub returns : goal.returns
returns c =
    let l = c.loop-i in
    levelled c.args.self.now.marks c.requires.0 (omega arith) l.invariant.0 l.invariant.1 c.requires.1 (roots_below c.requires.0)
