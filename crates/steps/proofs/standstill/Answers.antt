-- `standstill` meets its contract.
use mathlib.Core.Path.{◌≡◌}
use mathlib.Core.Bool.{false}
use Prim.Native.Nat.{◌*◌}
use lib.Dec.{leb}
use lib.ListN.{get_or}
use borrow.Author.Tests.{lt-ltb, le-leb, lt-leb}
use Rattle.run.specs.Machine.{reason}
use Rattle.tables.specs.Code.Laid.{updates_in}
use Rattle.steps.proofs.standstill.Goals as goal

pub returns-then-accesses-made : goal.returns-then-accesses-made
unfolding reason
returns-then-accesses-made c = rw (lt-ltb _ _ c.requires, ← c.accesses.ensures, le-leb _ _ c.if-accesses-made.true)

pub returns-then-blocks-i : goal.returns-then-blocks-i
unfolding reason
returns-then-blocks-i c =
    let a = c.args in
    let has_left : leb (2 * updates_in a.course.now.tables.first.now a.w) (get_or a.made.now a.w 0) ≡ false = lt-leb _ _ (rw c.accesses.ensures at c.if-accesses-made.false) in
    rw (lt-ltb _ _ c.requires, has_left, ← c.next_place.ensures, c.if-blocks-i.true)

pub returns : goal.returns
unfolding reason
returns c =
    let a = c.args in
    let has_left : leb (2 * updates_in a.course.now.tables.first.now a.w) (get_or a.made.now a.w 0) ≡ false = lt-leb _ _ (rw c.accesses.ensures at c.if-accesses-made.false) in
    rw (lt-ltb _ _ c.requires, has_left, ← c.next_place.ensures, c.if-blocks-i.false)
