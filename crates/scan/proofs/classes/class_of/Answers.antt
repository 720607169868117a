-- `class_of` meets its contract, range by range.
use native.Mathlib.Omega.{arith}
use mathlib.Core.Logic.{⊎_elim}
use borrow.Author.Tests.{le-leb, lt-leb, ne_eqb}
use Rattle.market.specs.Bytes.{class_of}
use Rattle.scan.proofs.classes.class_of.Goals as goal

pub returns-in-48-to-57 : goal.returns-in-48-to-57
unfolding class_of
returns-in-48-to-57 c =
    let b = c.args.b in
    rw (le-leb 48 b c.in-48-to-57.if-b-lt48-own.false, le-leb b 57 (omega arith))

pub returns-in-45 : goal.returns-in-45
unfolding class_of
returns-in-45 c = rw c.in-45.is

pub returns-in-32 : goal.returns-in-32
unfolding class_of
returns-in-32 c = rw c.in-32.is

pub returns-in-10 : goal.returns-in-10
unfolding class_of
returns-in-10 c = rw c.in-10.is

pub returns-in_default-b : goal.returns-in_default-b
unfolding class_of
returns-in_default-b c =
    let b = c.args.b in
    let r = c.in_default-b.in_default-b-own.rest in
    rw (ne_eqb b 45 r.0.0.1, ne_eqb b 32 r.0.1, ne_eqb b 10 r.1)
    (⊎_elim
    (λ w. rw (lt-leb 48 b (omega arith)))
    (λ w. rw (le-leb 48 b (omega arith), lt-leb b 57 (omega arith)))
    c.in_default.branch-raw)
