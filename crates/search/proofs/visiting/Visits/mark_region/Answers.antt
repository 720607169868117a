use mathlib.Core.Path.{◌≡◌, sym, ap, ◌∙◌}
use Prim.Native.Nat.{ℕ, suc, ◌+◌, ◌-◌}
use native.Mathlib.Omega.{arith}
use Rattle.base.specs.Lists.{bit, is_in}
use Rattle.base.specs.Near.{near}
use Rattle.matrix.specs.Matrix.{columns_of}
use Rattle.matrix.proofs.Matrix.{neighbours-is}
use Rattle.levels.specs.Code.Graph.{pattern_of, adj}
use Rattle.levels.proofs.Rows.{rows_graph}
use Rattle.search.proofs.MarkedRegion.{two-marks, all-below, all-within, rings_start, rings_front, rings_step, rings_last}
use Rattle.search.proofs.visiting.Visits.mark_region.Goals as goal

pub returns-then-scope-lt2 : goal.returns-then-scope-lt2
unfolding near
returns-then-scope-lt2 c =
    let e : c.args.scope.now.reach ≡ 1 = omega (arith, c.args.scope.now.some, c.if-scope-lt2.true) in
    λ v. rw e (c.requires.1 v)

pub returns-then-hi-graph : goal.returns-then-hi-graph
returns-then-hi-graph c =
    let a = c.args in
    all-within (rows_graph a.scope.now.graph.rows) a.own.now (all-below a.own.now c.requires.0) a.self.now.marks c.requires.1 (sym c.requires.2 ∙ c.if-hi-graph.true) (a.scope.now.reach - 1)

pub queue_rows-requires : goal.queue_rows-requires
queue_rows-requires c =
    let a = c.args in
    omega (arith, a.scope.now.graph.rows.small, two-marks a.scope.now.graph.m.n a.self.now.marks (is_in a.own.now) c.requires.1, c.requires.2)

pub loop-j-init : goal.loop-j-init
loop-j-init c =
    let a = c.args in
    rw c.queue_rows.ensures (rings_start (rows_graph a.scope.now.graph.rows) a.own.now (all-below a.own.now c.requires.0) a.self.now.marks a.self.now.queue a.scope.now.graph.rows.small (omega arith) (omega arith) c.requires.1 c.requires.2)

pub next_level-tail-requires : goal.next_level-tail-requires
next_level-tail-requires c =
    let a = c.args in
    let r = c.loop-j.invariant in
    (r.ready, r.up, rings_front (rows_graph a.scope.now.graph.rows) a.own.now (all-below a.own.now c.requires.0) r)

pub loop-j-preserved : goal.loop-j-preserved
loop-j-preserved c =
    let a = c.args in
    let l = c.loop-j in
    let e : l.j + 1 - 2 ≡ suc (l.j - 2) = omega (arith, l.auto.j) in
    rw e (rings_step (rows_graph a.scope.now.graph.rows) a.own.now (all-below a.own.now c.requires.0) l.invariant c.next_level-tail.ensures)

pub mark_ring-requires : goal.mark_ring-requires
mark_ring-requires c =
    let a = c.args in
    let r = c.loop-j.invariant in
    (r.up, omega (arith, r.ready.room), λ u h. (rings_front (rows_graph a.scope.now.graph.rows) a.own.now (all-below a.own.now c.requires.0) r u h).0)

pub returns : goal.returns
returns c =
    let a = c.args in
    let l = c.loop-j in
    let e : suc (l.j - 2) ≡ a.scope.now.reach - 1 = omega (arith, l.auto.j, l.auto.j-end) in
    λ v. rings_last (rows_graph a.scope.now.graph.rows) a.own.now (all-below a.own.now c.requires.0) l.invariant (columns_of (pattern_of a.scope.now.graph)) (neighbours-is (pattern_of a.scope.now.graph)) c.mark_ring.ensures v
    ∙ ap (λ (j : ℕ). bit (near (adj a.scope.now.graph) j a.own.now v)) e
