-- `access_for` meets its contract.
use mathlib.Core.Path.{refl}
use native.Mathlib.Omega.{arith}
use Rattle.crews.specs.Crews.{crew0, crew1}
use Rattle.turns.proofs.CrewBytes.{of-low, of_high}
use Rattle.turns.proofs.pick.access_for.Goals as goal

pub access-requires : goal.access-requires
access-requires c =
    let h = c.requires.1 crew0 (omega (arith, c.if-who-lt-MAX_WORKERS.true)) in
    (omega arith, h.0, h.1)

pub returns-then-who-lt-MAX_WORKERS : goal.returns-then-who-lt-MAX_WORKERS
returns-then-who-lt-MAX_WORKERS c =
    let l = c.if-who-lt-MAX_WORKERS.true in
    record {
      made = record {
        made = λ d n. rw (of-low l d n) c.access.ensures;
        state_kept = λ d n. rw (of-low l d n) refl;
        targets_kept = λ d n. rw (of-low l d n) refl;
      };
      adds0 = refl;
      adds1 = refl;
    }

pub access-requires-2 : goal.access-requires-2
access-requires-2 c =
    let h = c.requires.1 crew1 (omega (arith, c.if-who-lt-MAX_WORKERS.false, c.requires.0)) in
    (omega arith, h.0, h.1)

pub returns : goal.returns
returns c =
    let l = c.if-who-lt-MAX_WORKERS.false in
    record {
      made = record {
        made = λ d n. rw (of_high l d n) c.access-2.ensures;
        state_kept = λ d n. rw (of_high l d n) refl;
        targets_kept = λ d n. rw (of_high l d n) refl;
      };
      adds0 = refl;
      adds1 = refl;
    }
