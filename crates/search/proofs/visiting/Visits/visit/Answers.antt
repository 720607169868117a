-- Row v was reached before, or is found.
use native.Mathlib.Omega.{arith}
use Rattle.search.proofs.Waves.{some_left}
use Rattle.search.proofs.Visited.{visit_old, visit_new}
use Rattle.search.proofs.visiting.Visits.visit.Goals as goal

pub returns-then-self-v : goal.returns-then-self-v
returns-then-self-v c = visit_old c.args.change.to c.args.v c.requires.0 c.if-self-v.true

pub bounds-self-tail : goal.bounds-self-tail
bounds-self-tail c =
    omega (arith, c.requires.0.room, c.requires.0.small, some_left c.args.graph.now.m.n c.args.change.from c.args.self.now.marks c.args.v c.requires.1 c.if-self-v.false)

pub returns : goal.returns
returns c = visit_new c.args.change.to c.args.v c.requires.0 c.requires.1 c.args.change.other c.if-self-v.false
