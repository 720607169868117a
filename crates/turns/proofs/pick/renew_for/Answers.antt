-- `renew_for` meets its contract.
use mathlib.Core.Path.{refl}
use Rattle.turns.proofs.CrewBytes.{of-low, of_high}
use Rattle.turns.proofs.pick.renew_for.Goals as goal

pub returns-then-who-lt-MAX_WORKERS : goal.returns-then-who-lt-MAX_WORKERS
returns-then-who-lt-MAX_WORKERS c =
    let l = c.if-who-lt-MAX_WORKERS.true in
    let e = c.renew.ensures in
    record {
      current = λ d n. rw (of-low l d n) e.0;
      same = λ d n. rw (of-low l d n) e.1;
      blocks_kept = λ d n. rw (of-low l d n) refl;
      stops_kept = λ d n. rw (of-low l d n) refl;
    }

pub returns : goal.returns
returns c =
    let l = c.if-who-lt-MAX_WORKERS.false in
    let e = c.renew-2.ensures in
    record {
      current = λ d n. rw (of_high l d n) e.0;
      same = λ d n. rw (of_high l d n) e.1;
      blocks_kept = λ d n. rw (of_high l d n) refl;
      stops_kept = λ d n. rw (of_high l d n) refl;
    }
