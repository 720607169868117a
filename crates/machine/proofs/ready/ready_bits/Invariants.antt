-- `ready_bits`: the bits of the workers below w.
use mathlib.Core.Path.{◌≡◌}
use mathlib.Core.List.{List}
use Prim.Native.Nat.{ℕ}
use lib.Dec.{eqb}
use Rattle.run.specs.Job.{Job}
use Rattle.run.specs.Job as job
use Rattle.run.specs.Machine.{refusal, bits}
use Rattle.tables.specs.Code.Laid.{Laid, Waits}
use Rattle.machine.proofs.ReadyBits.{passing}
use Rattle.machine.proofs.ready.ready_bits.Given as goal

abbrev pub invariant-loop-w : goal.invariant-loop-w
invariant-loop-w l =
    (j : Job) (begins ends : List ℕ) → l.course.workers ≡ job.workers j → Laid j l.course.tables.first.now l.course.tables.row.now begins l.course.tables.leaves.now ends → Waits j l.made l.blocks
    → l.set ≡ bits (passing (λ v. eqb (refusal j l.made v) 0) l.w)
