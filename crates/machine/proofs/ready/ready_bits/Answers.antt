use mathlib.Core.Path.{◌≡◌, refl, ap, ◌∙◌}
use Prim.Native.Nat.{ℕ}
use native.Mathlib.Omega.{arith}
use lib.Dec.{eqb}
use Rattle.run.specs.Job.{Job}
use Rattle.run.specs.Job as job
use Rattle.run.specs.Machine.{refusal, ready_below, ready, bits}
use Rattle.steps.proofs.TableSteps.{told_none}
use Rattle.machine.proofs.TableWaits.{table-reason}
use Rattle.machine.proofs.ReadyBits.{passing, bits-turn, ready_passing}
use Rattle.machine.proofs.ready.ready_bits.Goals as goal

pub loop-w-init : goal.loop-w-init
unfolding passing bits
loop-w-init c = λ j begins ends e laid waits. refl

pub loop-w-preserved : goal.loop-w-preserved
loop-w-preserved c =
    let a = c.args in
    let w = c.loop-w.w in
    λ j begins ends e laid waits.
    (let free : c.is_ok-is_ready.result ≡ eqb (refusal j a.made.now w) 0 =
    c.is_ok-is_ready.ensures.value ∙ told_none _ ∙ ap (λ (k : ℕ). eqb k 0) (c.refusal.ensures ∙ table-reason j laid a.made.now a.blocks.now waits a.course.now.workers e a.course.now.few w) in
    rw (c.loop-w.invariant j begins ends e laid waits) (bits-turn (λ v. eqb (refusal j a.made.now v) 0) w c.is_ok-is_ready.result (omega arith) free))

pub returns : goal.returns
unfolding ready
returns c =
    let a = c.args in
    λ j begins ends e laid waits.
    (let all : c.loop-w.w ≡ job.workers j = omega arith in
    c.loop-w.invariant j begins ends e laid waits ∙ ap bits (ready_passing j a.made.now c.loop-w.w) ∙ ap (λ (k : ℕ). bits (ready_below j a.made.now k)) all)
