-- `crew_bits`: the bits of the workers below w.
use mathlib.Core.Path.{◌≡◌}
use mathlib.Core.List.{List}
use Prim.Native.Nat.{ℕ}
use lib.Dec.{eqb}
use Rattle.run.specs.Job as job
use Rattle.run.specs.State.{State}
use Rattle.run.specs.Machine.{bits}
use Rattle.tables.specs.Code.Laid.{Laid, Waits}
use Rattle.machine.proofs.ReadyBits.{passing}
use Rattle.crews.specs.Crews.{Crew, other, Two, own_of, Roof, job_for, crew_refusal}
use Rattle.shared.proofs.ready_sets.crew_bits.Given as goal

abbrev pub invariant-loop-w : goal.invariant-loop-w
invariant-loop-w l =
    (q : Roof) (s : Two State) (c : Crew) (ends : List ℕ) → l.course.workers ≡ job.workers (job_for q c)
    → ((d : Crew) → Laid (job_for q d) l.course.tables.first.now l.course.tables.row.now l.course.tables.begins.now l.course.tables.leaves.now ends)
    → (own_of s c).made ≡ l.made → (own_of s (other c)).made ≡ l.theirs → Waits (job_for q c) l.made l.blocks → l.set ≡ bits (passing (λ v. eqb (crew_refusal q s c v) 0) l.w)
