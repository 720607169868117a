-- `is_inside` meets its contract.
use borrow.Author.Tests.{lt-ltb, le-ltb}
use Rattle.turns.proofs.inside.is_inside.Goals as goal

pub returns-then-accesses-done : goal.returns-then-accesses-done
returns-then-accesses-done c = rw (← c.accesses.ensures, le-ltb _ _ c.if-accesses-done.true)

pub returns : goal.returns
returns c = rw (← c.accesses.ensures, lt-ltb _ _ c.if-accesses-done.false)
