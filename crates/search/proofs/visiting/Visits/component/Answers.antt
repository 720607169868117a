-- The row was reached before, or it is the root.
use native.Mathlib.Omega.{arith}
use Rattle.search.proofs.Frontiers.{kept_refl}
use Rattle.search.proofs.AllComponents.{between_old, root-frontier, between_new}
use Rattle.search.proofs.visiting.Visits.component.Goals as goal

pub bounds-self-root : goal.bounds-self-root
bounds-self-root c = omega (arith, c.requires.0.below c.args.i c.requires.1, c.args.scope.now.graph.rows.small)

pub returns-then-self-root-ne-UNREACHED : goal.returns-then-self-root-ne-UNREACHED
returns-then-self-root-ne-UNREACHED c = (between_old c.requires.2 c.if-self-root-ne-UNREACHED.true, kept_refl c.args.self.now.marks)

pub visit-end-requires : goal.visit-end-requires
visit-end-requires c = (c.requires.2.frontier.ready, c.requires.0.below c.args.i c.requires.1)

pub spread-requires : goal.spread-requires
spread-requires c = root-frontier c.requires.2 c.requires.0 c.requires.1 c.if-self-root-ne-UNREACHED.false c.visit-end.ensures

pub returns : goal.returns
returns c = between_new c.requires.2 c.requires.0 c.requires.1 c.if-self-root-ne-UNREACHED.false c.visit-end.ensures c.spread.ensures
