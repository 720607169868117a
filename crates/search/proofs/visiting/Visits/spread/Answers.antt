use native.Mathlib.Omega.{arith}
use Rattle.levels.specs.Code.Graph.{adj}
use Rattle.levels.proofs.Rows.{rows_graph}
use Rattle.search.proofs.Frontiers.{frontier-front, spreading_start, spreading_step, spreading_less, spreading_end}
use Rattle.search.proofs.visiting.Visits.spread.Goals as goal

pub loop-lo-init : goal.loop-lo-init
loop-lo-init c = spreading_start (adj c.args.graph.now) c.requires

pub overflow_add-reached : goal.overflow_add-reached
overflow_add-reached c =
    let f = c.loop-lo.invariant.frontier in
    record { fits = omega (arith, f.enough, f.ready.small) }

pub next_level-tail-requires : goal.next_level-tail-requires
next_level-tail-requires c =
    let f = c.loop-lo.invariant.frontier in
    (f.ready, f.low, frontier-front f)

pub overflow_add-d : goal.overflow_add-d
overflow_add-d c =
    let f = c.loop-lo.invariant.frontier in
    record { fits = omega (arith, f.enough, f.ready.small) }

pub loop-lo-smaller : goal.loop-lo-smaller
loop-lo-smaller c = spreading_less (rows_graph c.args.graph.now.rows) c.loop-lo.invariant (omega arith) c.next_level-tail.ensures

pub loop-lo-preserved : goal.loop-lo-preserved
loop-lo-preserved c = spreading_step (rows_graph c.args.graph.now.rows) c.loop-lo.invariant (omega arith) c.next_level-tail.ensures

pub returns : goal.returns
returns c = spreading_end c.loop-lo.invariant (omega arith)
