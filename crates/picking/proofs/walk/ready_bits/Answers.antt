use mathlib.Core.Path.{◌≡◌, refl, ap, ◌∙◌}
use mathlib.Core.Bool.{Bool}
use Prim.Native.Nat.{ℕ}
use native.Mathlib.Omega.{arith}
use lib.Dec.{eqb}
use lib.ListN.{replicate, get_or-replicate}
use Rattle.run.specs.Machine.{bits}
use Rattle.steps.proofs.TableSteps.{told_none}
use Rattle.machine.proofs.ReadyBits.{passing, bits-turn}
use Rattle.prepared.specs.Tables.{refusal_by, ready_below_by}
use Rattle.picking.specs.Code.Picks.{tables_in}
use Rattle.picking.proofs.Open.{opened-start}
use Rattle.picking.proofs.Ready.{ready_passing}
use borrow.Author.Rules.{rules}
use Rattle.picking.proofs.walk.ready_bits.Goals as goal

pub loop-w-init : goal.loop-w-init
unfolding passing bits
loop-w-init c = refl

pub refusal-requires : goal.refusal-requires
refusal-requires c =
    let a = c.args in
    (c.requires, opened-start a.list.now a.sizes.rows a.sizes.count a.made.now (replicate 16 4294967295) c.requires.rows_low (λ w l. get_or-replicate 16 w 4294967295 0 l))

pub overflow_shl-set : goal.overflow_shl-set
overflow_shl-set c = let few = c.requires.few in search rules

pub loop-w-preserved : goal.loop-w-preserved
loop-w-preserved c =
    let a = c.args in
    let w = c.loop-w.w in
    let test : ℕ → Bool = λ v. eqb (refusal_by (tables_in a.list.now) a.made.now v) 0 in
    let free = c.is_ok-is_ready.ensures.value ∙ told_none c.refusal.result in
    rw c.loop-w.invariant (bits-turn test w c.is_ok-is_ready.result (omega (arith, c.requires.few)) (free ∙ ap (λ (k : ℕ). eqb k 0) c.refusal.ensures))

pub returns : goal.returns
returns c =
    let a = c.args in
    let all : c.loop-w.w ≡ a.sizes.crew = omega arith in
    c.loop-w.invariant ∙ ap bits (ready_passing (tables_in a.list.now) a.made.now c.loop-w.w) ∙ ap (λ (k : ℕ). bits (ready_below_by (tables_in a.list.now) a.made.now k)) all
