use mathlib.Core.Path.{◌≡◌, refl, ap, ◌∙◌}
use Prim.Native.Nat.{ℕ}
use native.Mathlib.Omega.{arith}
use lib.Dec.{eqb}
use Rattle.run.specs.Job as job
use Rattle.run.specs.Machine.{ready, bits}
use Rattle.machine.proofs.ReadyBits.{passing, bits-turn}
use Rattle.crews.specs.Crews.{job_for, unless_away, crew_refusal, crew_ready}
use Rattle.steps.specs.Code.Steps.{reason_at}
use Rattle.turns.specs.Code.Inside.{inside_at}
use Rattle.turns.proofs.CrewTurns.{free-is}
use Rattle.shared.proofs.Sharing.{crew_passing}
use Rattle.shared.proofs.ready_sets.crew_bits.Goals as goal

pub loop-w-init : goal.loop-w-init
unfolding passing bits
loop-w-init c = λ q s c ends e laid a b waits. refl

pub is_free-free-requires : goal.is_free-free-requires
is_free-free-requires c = (omega (arith, c.args.by_rows.now.course.few), c.args.by_rows.now.laid)

pub loop-w-preserved : goal.loop-w-preserved
loop-w-preserved c =
    let a = c.args in
    let k = a.by_rows.now.course in
    let t = k.tables in
    let w = c.loop-w.w in
    λ q s d ends e laid ea eb waits.
    (let is : unless_away (reason_at k.workers t.first.now t.row.now t.leaves.now a.blocks.now a.made.now w) (inside_at t.first.now t.row.now t.begins.now a.theirs.now w) ≡ crew_refusal q s d w =
    rw (← ea, ← eb) (free-is q s d laid k.workers e k.few a.blocks.now (rw ea waits) w (omega (arith, k.few))) in
    let free : c.is_free-free.result ≡ eqb (crew_refusal q s d w) 0 = c.is_free-free.ensures ∙ ap (λ (k : ℕ). eqb k 0) is in
    rw (c.loop-w.invariant q s d ends e laid ea eb waits) (bits-turn (λ v. eqb (crew_refusal q s d v) 0) w c.is_free-free.result (omega (arith, k.few)) free))

pub returns : goal.returns
unfolding crew_ready ready
returns c =
    λ q s d ends e laid ea eb waits.
    (let all : c.loop-w.w ≡ job.workers (job_for q d) = omega arith in
    c.loop-w.invariant q s d ends e laid ea eb waits ∙ ap (λ (k : ℕ). bits (passing (λ v. eqb (crew_refusal q s d v) 0) k)) all ∙ ap bits (crew_passing q s d (job.workers (job_for q d))))
