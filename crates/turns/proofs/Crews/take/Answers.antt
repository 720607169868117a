-- `turns::Crews::take`: the rows of the updates, then the picks.
use mathlib.Core.Path.{refl, sym, ◌∙◌}
use mathlib.Core.List.{List}
use Prim.Native.Nat.{ℕ}
use lib.IntN.{ℤ}
use Rattle.steps.specs.Code.Updates.{Triangle}
use Rattle.steps.proofs.GivenTables.{step_tables}
use Rattle.machine.proofs.PlannedTables.{planned-blank, planned_recorded, whole-few}
use Rattle.crews.specs.Crews.{Crew, crew0, crew1, own_of, Roof, job_for}
use Rattle.turns.proofs.Crews.take.Goals as goal

for-each : (q : Roof) {parts at : List ℕ} {of0 of1 beside : List ℤ} → Triangle (job_for q crew0) parts of0 at beside → Triangle (job_for q crew1) parts of1 at beside
    → (c : Crew) → Triangle (job_for q c) parts (own_of (record { of0 = of0; of1 = of1 }) c) at beside
for-each q t u crew0 = t
for-each q t u crew1 = u

pub lay_tables-tables-requires : goal.lay_tables-tables-requires
lay_tables-tables-requires c = let s = c.requires in (_, s.1 crew0, s.2 crew0, planned-blank (s.1 crew0))

pub of-course-requires : goal.of-course-requires
of-course-requires c =
    let s = c.requires in
    let t = c.lay_tables-tables.ensures _ (s.1 crew0) (s.2 crew0) (planned-blank (s.1 crew0)) in
    (whole-few t.0, planned_recorded t.0, rw s.4 t.2)

pub invariant_of-work0 : goal.invariant_of-work0
invariant_of-work0 c =
    let s = c.requires in
    let t = c.lay_tables-tables.ensures _ (s.1 crew0) (s.2 crew0) (planned-blank (s.1 crew0)) in
    record { placed = rw (c.of-course.ensures.0, c.of-course.ensures.1, s.4) (step_tables _ t.1 t.2 s.3) }

pub walk-requires : goal.walk-requires
walk-requires c =
    let s = c.requires in
    let e = c.of-course.ensures in
    (refl, refl, sym e.1, s.5 ∙ sym s.4 ∙ sym e.1, rw e.0 e.2, rw e.0 (planned_recorded (c.lay_tables-tables.ensures _ (s.1 crew0) (s.2 crew0) (planned-blank (s.1 crew0))).0))

pub returns : goal.returns
returns c q g k t u =
    (rw c.of-course.ensures.0 at c.walk.ensures) q (λ d. (g d).sized.accepted) (c.lay_tables-tables.ensures _ (g crew0) (k crew0) (planned-blank (g crew0))).0.groups_are
    (λ d. (c.lay_tables-tables.ensures _ (g d) (k d) (planned-blank (g d))).1) (for-each q t u)
