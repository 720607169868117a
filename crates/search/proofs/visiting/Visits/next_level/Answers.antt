use mathlib.Core.Logic.{◌≢◌}
use Prim.Native.Nat.{◌<◌}
use native.Mathlib.Omega.{arith}
use lib.ListN.{take, get_or}
use Rattle.levels.specs.Code.Graph.{pattern_of, adj}
use Rattle.levels.proofs.Rows.{row_below, rows_graph}
use Rattle.search.specs.Code.Search.{wave}
use Rattle.search.proofs.Visited.{visit_row, across_start, across_in, across_step, across_end}
use Rattle.search.proofs.visiting.Visits.next_level.Goals as goal

pub loop-i-init : goal.loop-i-init
loop-i-init c = across_start (adj c.args.graph.now) c.args.change.to c.args.lo c.requires.1 c.requires.0

pub bounds-self-i : goal.bounds-self-i
bounds-self-i c = omega (arith, c.requires.0.small, c.requires.0.room)

pub columns_of-requires : goal.columns_of-requires
columns_of-requires c = (across_in c.loop-i.invariant (omega arith) (omega (arith, c.requires.0.small, c.requires.0.room, c.requires.0.queue_long)) c.requires.2).0

pub visit_all-tail-requires : goal.visit_all-tail-requires
visit_all-tail-requires c =
    (c.loop-i.invariant.ready, rw c.columns_of.ensures (row_below c.args.graph.now.rows (get_or c.loop-i.self.queue c.loop-i.i 0)))

pub loop-i-preserved : goal.loop-i-preserved
loop-i-preserved c =
    let l = c.loop-i in
    let q = l.self.queue in
    let here : (get_or q l.i 0 < c.args.graph.now.m.n) × (get_or l.self.marks (get_or q l.i 0) 0 ≢ c.args.change.from) = across_in l.invariant (omega arith) (omega (arith, c.requires.0.small, c.requires.0.room, c.requires.0.queue_long)) c.requires.2 in
    across_step l.invariant (omega arith) (omega (arith, c.requires.0.small, c.requires.0.room, c.requires.0.queue_long)) c.args.change.other
    (λ x h. (rows_graph c.args.graph.now.rows).below x (get_or q l.i 0) h)
    (rw (visit_row (pattern_of c.args.graph.now) c.args.change.from c.args.change.to (wave l.self.marks (take l.tail q)) (get_or q l.i 0) here.1)
    (rw c.columns_of.ensures at c.visit_all-tail.ensures))

pub returns : goal.returns
returns c = across_end c.loop-i.invariant (omega arith)
