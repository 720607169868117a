-- `put_new`: nothing in a column that is marked.
use lib.Dec.{leb}
use borrow.Author.Tests.{eq-eqb}
use Rattle.base.proofs.Booleans.{and_false}
use Rattle.joined.proofs.Emitting.{added_none}
use Rattle.joined.proofs.puts.put_new.Goals as goal

pub returns-then-tables-c : goal.returns-then-tables-c
returns-then-tables-c c = rw (eq-eqb _ _ c.if-tables-c.true, and_false (leb c.args.j c.args.i)) (added_none _)
