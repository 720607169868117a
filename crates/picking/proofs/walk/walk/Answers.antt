use mathlib.Core.Bool.{not}
use mathlib.Core.Path.{refl, ap}
use native.Mathlib.Omega.{arith}
use lib.ListN.{replicate, get_or-replicate}
use borrow.Author.Rules.{rules}
use Rattle.base.proofs.Booleans.{fails, holds}
use Rattle.steps.proofs.TableSteps.{not_told}
use Rattle.picking.proofs.Open.{opened-start}
use Rattle.picking.proofs.Walks.{kept_on, going_start, going_none, going_halt, going_past, going_on}
use Rattle.picking.proofs.walk.walk.Goals as goal
use Rattle.picking.proofs.walk.walk.Goals.{in-Ok, in-Err+else-not-passes}

pub loop-k-init : goal.loop-k-init
loop-k-init c =
    let a = c.args in
    (search rules, going_start refl (record { made_long = (let g = c.well_formed in search rules); seen_long = refl; opened = opened-start a.list.now a.sizes.rows a.sizes.count a.state.made (replicate 16 4294967295) c.requires.0.rows_low (λ w l. get_or-replicate 16 w 4294967295 0 l) }))

pub pick-requires : goal.pick-requires
pick-requires c =
    let g = c.loop-k.invariant.1 in
    (c.requires.0, omega (arith, c.requires.1, g.kept.long), g.rows_seen)

pub returns-then-not-passes : goal.returns-then-not-passes
returns-then-not-passes c =
    let g = c.loop-k.invariant.1 in
    (going_halt g c.loop-k-test.true (rw c.in-Err.is at c.pick.ensures.0) (not_told c.in-Err.kind) (fails c.passes.ensures (ap not c.if-not-passes.true)), kept_on g.kept c.pick.ensures.1)

pub loop-k-preserved : goal.loop-k-preserved
loop-k-preserved c =
    let g = c.loop-k.invariant.1 in
    let l = c.loop-k-test.true in
    let e = c.pick.ensures in
    elim c.match-pick.branch [
      | in-Ok w ↦ rw w.taken-is (omega (arith, c.loop-k.invariant.0), going_on g l (rw w.in-Ok.is at e.0) e.2 e.1 refl refl)
      | in-Err+else-not-passes w ↦ rw w.taken-is
          (omega (arith, c.loop-k.invariant.0), going_past g l (rw w.in-Err.is at e.0) e.2 e.1 refl (not_told w.in-Err.kind) (holds w.passes.ensures (ap not w.if-not-passes.false)))
    ]

pub returns : goal.returns
returns c =
    let g = c.loop-k.invariant.1 in
    (going_none g (search rules), g.kept)
