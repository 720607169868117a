use mathlib.Core.Path.{◌≡◌, refl, subst}
use Prim.Native.Nat.{ℕ, ◌+◌}
use native.Mathlib.Omega.{arith}
use lib.ListN.{take}
use Rattle.search.specs.Code.Search.{wave}
use Rattle.search.proofs.Visited.{Along, along_step, along_end}
use Rattle.search.proofs.visiting.Visits.visit_all.Goals as goal

pub loop-i-init : goal.loop-i-init
loop-i-init c = record { ready = c.requires.0; le = omega arith; left = refl }

pub visit-tail-requires : goal.visit-tail-requires
visit-tail-requires c = (c.loop-i.invariant.ready, c.requires.1 c.loop-i.i (omega arith))

pub visit-tail-requires-in-loop-i : goal.visit-tail-requires-in-loop-i
visit-tail-requires-in-loop-i c = (c.visit-tail.ensures.ready, c.requires.1 (c.loop-i.i + 1) (omega arith))

pub loop-i-preserved : goal.loop-i-preserved
loop-i-preserved c =
    let a = c.args in
    let s = c.visit-tail-in-loop-i in
    let two : c.loop-i.i + 1 + 1 ≡ c.loop-i.i + 2 = omega arith in
    subst (λ (i : ℕ). Along a.graph.now.m.n a.change.from a.change.to a.rows.now (wave a.self.now.marks (take a.start a.self.now.queue)) s.new.self.marks s.new.self.queue s.result i) two
    (along_step (along_step c.loop-i.invariant (omega arith) c.visit-tail.ensures) (omega arith) s.ensures)

pub visit-requires : goal.visit-requires
visit-requires c = (c.loop-i.invariant.ready, c.requires.1 c.loop-i.i (omega arith))

pub returns-then-i-rows : goal.returns-then-i-rows
returns-then-i-rows c = along_end (along_step c.loop-i.invariant (omega arith) c.visit.ensures) (omega arith)

pub returns : goal.returns
returns c = along_end c.loop-i.invariant (omega arith)
