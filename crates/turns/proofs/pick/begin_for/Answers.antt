-- `begin_for` meets its contract.
use mathlib.Core.Path.{◌≡◌, refl, sym}
use native.Mathlib.Omega.{arith}
use borrow.Author.Tests.{le-leb, lt-leb}
use Rattle.crews.specs.Crews.{crew0, crew1}
use Rattle.turns.specs.Code.Turned.{misnamed}
use Rattle.turns.proofs.CrewBytes.{of-low, of_high}
use Rattle.turns.proofs.pick.begin_for.Goals as goal

pub returns-then-who : goal.returns-then-who
returns-then-who c =
    let crewless : let a = c.args in misnamed a.who a.work0.now.course.workers ≡ 18 = rw (le-leb _ _ c.if-who.true) refl in
    record {
      halted = λ f. sym crewless;
      entered = λ z. absurd (omega (arith, crewless));
      gone = λ z. absurd (omega (arith, crewless));
      adds_kept = λ z. absurd (omega (arith, crewless));
    }

pub returns-then-work0-w : goal.returns-then-work0-w
returns-then-work0-w c =
    let stranger : let a = c.args in misnamed a.who a.work0.now.course.workers ≡ 10 = rw (lt-leb _ _ c.if-who.false, le-leb _ _ c.if-work0-w.true) refl in
    record {
      halted = λ f. sym stranger;
      entered = λ z. absurd (omega (arith, stranger));
      gone = λ z. absurd (omega (arith, stranger));
      adds_kept = λ z. absurd (omega (arith, stranger));
    }

pub begin-requires : goal.begin-requires
begin-requires c = (omega arith, c.requires crew0)

pub returns-then-who-lt-MAX_WORKERS : goal.returns-then-who-lt-MAX_WORKERS
returns-then-who-lt-MAX_WORKERS c =
    let none : let a = c.args in misnamed a.who a.work0.now.course.workers ≡ 0 = rw (lt-leb _ _ c.if-who.false, lt-leb _ _ c.if-work0-w.false) refl in
    let l = c.if-who-lt-MAX_WORKERS.true in
    record {
      halted = λ f. absurd (f none);
      entered = λ z d n. rw (of-low l d n) c.begin.ensures;
      gone = λ z d n. rw (of-low l d n) refl;
      adds_kept = λ z d n. rw (of-low l d n) refl;
    }

pub begin-requires-2 : goal.begin-requires-2
begin-requires-2 c = (omega arith, c.requires crew1)

pub returns : goal.returns
returns c =
    let none : let a = c.args in misnamed a.who a.work0.now.course.workers ≡ 0 = rw (lt-leb _ _ c.if-who.false, lt-leb _ _ c.if-work0-w.false) refl in
    let l = c.if-who-lt-MAX_WORKERS.false in
    record {
      halted = λ f. absurd (f none);
      entered = λ z d n. rw (of_high l d n) c.begin-2.ensures;
      gone = λ z d n. rw (of_high l d n) refl;
      adds_kept = λ z d n. rw (of_high l d n) refl;
    }
