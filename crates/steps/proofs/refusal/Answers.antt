-- `refusal` meets its contract.
use borrow.Author.Tests.{lt-ltb, le-ltb}
use Rattle.plan.specs.Sound.{max_workers}
use Rattle.run.specs.Machine.{reason}
use native.Mathlib.Omega.{arith}
use Rattle.steps.proofs.refusal.Goals as goal

pub returns-then-course-w : goal.returns-then-course-w
unfolding reason
returns-then-course-w c = rw (le-ltb _ _ c.if-course-w.true)

pub returns : goal.returns
unfolding reason
returns c =
    let a = c.args in
    let few = a.course.now.few in
    rw (lt-ltb a.w a.course.now.workers c.if-course-w.false) (rw (lt-ltb a.w max_workers (omega (arith, few, c.if-course-w.false))) at c.standstill.ensures)
